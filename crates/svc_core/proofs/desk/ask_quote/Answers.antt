use Rattle.svc_world.specs.Desk.{quoted, per_day}
use Rattle.svc_loan.specs.Loans.{held_in}
use Rattle.svc_world.specs.Held.{Held}
use Rattle.svc_world.specs.declared.answer.Answer.TheVariants as answer
use Rattle.svc_core.proofs.AskLemmas.{told}
use Rattle.svc_core.proofs.desk.ask_quote.Goals as goal

pub returns-clause-answer : goal.returns-clause-answer
returns-clause-answer g c =
    told c.args.id (held_in c.args.state.now.loans.loans) c.in_ok-loan.loan.now.held (λ i (l : Held). answer.Quote i c.args.day (quoted l c.args.day) (per_day l c.args.day))
    c.quote_answer.result c.in_ok-loan.ensures.found c.quote_answer.ensures.answer
