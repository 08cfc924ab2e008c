-- What the facts of a month are told by.
use Rattle.std.specs.Prelude.{pos, ◌≤ℤ◌}
use Rattle.svc_types.specs.declared.books.Collected.{Collected}

-- each lies from 0 to 10^18
pub record AreWithin (c : Collected) : Type 0 where
  pub upb_low : pos 0 ≤ℤ c.upb
  pub upb_high : c.upb ≤ℤ pos 1_000_000_000_000_000_000
  pub curtailed_low : pos 0 ≤ℤ c.curtailed
  pub curtailed_high : c.curtailed ≤ℤ pos 1_000_000_000_000_000_000
  pub interest_low : pos 0 ≤ℤ c.interest
  pub interest_high : c.interest ≤ℤ pos 1_000_000_000_000_000_000
  pub fee_low : pos 0 ≤ℤ c.fee
  pub fee_high : c.fee ≤ℤ pos 1_000_000_000_000_000_000
