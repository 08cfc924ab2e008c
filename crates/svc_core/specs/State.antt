-- What holds of the core's parts, beside the world that they hold.
use Rattle.std.specs.Prelude.{ℕ}
use Rattle.std.specs.List.{All}
use Rattle.period_adjust.specs.Sealed.{State}
use Rattle.svc_world.specs.Worlds.{IsWorld}
use Rattle.svc_loan.specs.Loans.{KeptLoans}
pub use Rattle.svc_rules.specs.State.{world_of}
use Rattle.svc_custody.specs.Cash.{IsKeptIn}

-- after n commands they hold a sound world, and each loan is kept as that world has it
pub record IsState (n today : ℕ) (loans : KeptLoans) (seals : State) : Type 0 where
  pub world : IsWorld n (world_of today loans seals)
  pub kept : All (IsKeptIn (world_of today loans seals)) loans.loans
