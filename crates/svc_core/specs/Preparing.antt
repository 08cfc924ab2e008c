-- What making room leaves as it was.
use Rattle.std.specs.Prelude.{◌≡◌}
use Rattle.period_adjust.specs.Sealed.{State}
use Rattle.svc_loan.specs.Loans.{KeptLoans, held_in, closed_in, remitted_in}

-- all loans and all reports are as they were
pub record HaveStayed (loans later : KeptLoans) (seals sealed : State) : Type 0 where
  pub held : held_in later.loans ≡ held_in loans.loans
  pub closed_months : closed_in later.loans ≡ closed_in loans.loans
  pub remitted_cents : remitted_in later.loans ≡ remitted_in loans.loans
  pub reporting : sealed.reporting ≡ seals.reporting
  pub remitted_month : sealed.remitted ≡ seals.remitted
