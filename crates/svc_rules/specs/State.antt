-- The world that the business day, the kept loans and the reports make up.
use Rattle.std.specs.Prelude.{ℕ}
use Rattle.period_adjust.specs.Sealed.{State}
use Rattle.svc_world.specs.World.{World}
use Rattle.svc_loan.specs.Loans.{KeptLoans, held_in}

-- the business day, all loans, and the reports with what was remitted
abbrev pub world_of : ℕ → KeptLoans → State → World
world_of today loans seals = record {
  today = today;
  loans = held_in loans.loans;
  seals = seals.reporting;
  remitted = seals.remitted;
}
