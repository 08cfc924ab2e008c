use Rattle.std.proofs.Common.{rules}
use Rattle.svc_spec.specs.Accounts.{entry_of}
use Rattle.svc_replay.proofs.PlainLemmas.{of_found}
use Rattle.svc_replay.proofs.plain.PlainLoanBooks.reverse.Goals as goal

pub returns-clause-again : goal.returns-clause-again
returns-clause-again g c = rw (c.self.view_is, c.in_ok-reverse.was) at c.reverse.ensures.again

pub returns-clause-steps : goal.returns-clause-steps
returns-clause-steps g c =
    let unknown = rw (c.self.view_is, c.in_ok-reverse.was) at c.reverse.ensures.unknown in
    of_found (entry_of c.args.self.now.account c.args.number) _ _ (λ none. absurd (let wrong = unknown none in search rules)) (λ e. c.refolded-self-inside.ensures.steps)
