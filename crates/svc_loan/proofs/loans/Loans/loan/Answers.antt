use Rattle.std.proofs.Common.{ap}
use Rattle.svc_loan.specs.Loans.{KeptLoans}
use Rattle.svc_loan.proofs.KeptLemmas.{lent_found}
use Rattle.svc_loan.proofs.loans.Loans.loan.Goals as goal

pub returns : goal.returns
returns g c = lent_found _ _ _ _ _ _ (record { all = ap (λ (s : KeptLoans). s.loans) c.self.view_is; place = c.requires; pointer = c.index.ensures; loan = c.deref.ensures })
