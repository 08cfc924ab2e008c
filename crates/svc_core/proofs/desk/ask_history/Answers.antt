use Rattle.svc_spec.specs.History.{history_of}
use Rattle.svc_loan.specs.Loans.{held_in}
use Rattle.svc_world.specs.Held.{Held}
use Rattle.svc_world.specs.declared.answer.Answer.TheVariants as answer
use Rattle.svc_core.proofs.AskLemmas.{told}
use Rattle.svc_core.proofs.desk.ask_history.Goals as goal

pub returns-clause-answer : goal.returns-clause-answer
returns-clause-answer g c =
    told c.args.id (held_in c.args.state.now.loans.loans) c.in_ok-loan.loan.now.held (λ i (l : Held). answer.History i c.args.state.now.today (history_of l.account) l.account.reversals)
    c.in_ok-history_answer.field-0 c.in_ok-loan.ensures.found c.in_ok-history_answer.ensures.answer
