-- What an escrow account pays out in a month.
use Rattle.std.specs.Prelude.{ℤ, pos, ◌≤ℤ◌}

-- what one month may pay out, in cents: 16 bills of ten thousand million at most
pub record IsMonthPaid (paid : ℤ) : Type 0 where
  pub low : pos 0 ≤ℤ paid
  pub high : paid ≤ℤ pos 160_000_000_000
