-- What holds of the fields of a day.
use Rattle.std.specs.Prelude.{ℕ, ◌≤◌}
use Rattle.svc_base.specs.Calendar.{month_length}

pub record IsDayOf (month day : ℕ) : Type 0 where
  pub first : 1 ≤ day
  pub last : day ≤ month_length month
