-- Amounts within a limit.
use Rattle.std.specs.Prelude.{ℕ, ℤ, pos, neg_ℤ, ◌<ℤ◌}

-- an amount that is below a limit on either side of zero
pub record IsBelow (limit : ℕ) (z : ℤ) : Type 0 where
  pub low : neg_ℤ (pos limit) <ℤ z
  pub high : z <ℤ pos limit
