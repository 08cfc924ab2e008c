-- What is known of a loan that follows commands.
use Rattle.std.specs.Prelude.{◌≡◌, ℕ, ◌<◌}
use Rattle.std.specs.List.{All}
use Rattle.svc_loan.specs.Kept.{KeptLoan}

-- its business day, and a number above those of its entries
pub record IsFollowed (day above : ℕ) (k : KeptLoan) : Type 0 where
  pub today : k.held.account.today ≡ day
  pub numbers : All (λ x. x.number < above) k.held.account.entries
