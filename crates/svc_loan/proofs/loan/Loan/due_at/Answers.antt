use Rattle.std.proofs.Common.{◌≡◌, subst}
use Rattle.svc_world.specs.LoanDues.{due_of}
use Rattle.svc_loan.specs.Kept.{KeptLoan}
use Rattle.svc_loan.proofs.loan.Loan.due_at.Goals as goal

pub returns : goal.returns
returns g c = subst (λ (v : KeptLoan). c.due_after.result ≡ due_of v.held c.args.month) c.self.view_is c.due_after.ensures
