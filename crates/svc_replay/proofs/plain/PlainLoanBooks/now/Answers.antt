use Rattle.std.proofs.Common.{sym, ap, ◌∙◌}
use Rattle.svc_spec.specs.Books.{total}
use Rattle.svc_spec.proofs.TotalLemmas.{account_total}
use Rattle.svc_replay.proofs.plain.PlainLoanBooks.now.Goals as goal

pub returns-clause-conserved : goal.returns-clause-conserved
returns-clause-conserved c =
    let all = account_total c.self.inside.kept.account c.self.invariant.account in
    rw c.self.view_is at (all ∙ ap total (sym c.self.invariant.now))
