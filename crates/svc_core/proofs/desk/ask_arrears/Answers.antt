use Rattle.svc_spec.specs.Arrears.{arrears_of}
use Rattle.svc_loan.specs.Loans.{held_in}
use Rattle.svc_world.specs.Held.{Held, books_now}
use Rattle.svc_world.specs.declared.answer.Answer.TheVariants as answer
use Rattle.svc_core.proofs.AskLemmas.{told}
use Rattle.svc_core.proofs.desk.ask_arrears.Goals as goal

pub returns-clause-answer : goal.returns-clause-answer
returns-clause-answer g c =
    told c.args.id (held_in c.args.state.now.loans.loans) c.in_ok-loan.loan.now.held (λ i (l : Held). answer.Arrears i c.args.state.now.today (arrears_of l.account.terms c.args.state.now.today (books_now l)))
    c.arrears_answer.result c.in_ok-loan.ensures.found c.arrears_answer.ensures.answer
