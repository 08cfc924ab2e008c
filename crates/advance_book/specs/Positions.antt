-- What custody holds for a loan, and what the servicer has advanced for it, in cents.
use Rattle.std.specs.Prelude.{Bool, ℤ, pos, ◌+ℤ◌, ◌-ℤ◌, ◌≤ℤ◌, neg_ℤ, if◌then◌else◌}
use Rattle.std.specs.Int.{int_max}

-- z is no further from 0 than 10^18
pub record IsSum (z : ℤ) : Type 0 where
  pub low : neg_ℤ (pos 1_000_000_000_000_000_000) ≤ℤ z
  pub high : z ≤ℤ pos 1_000_000_000_000_000_000

-- an amount, or nothing where it is below 0
abbrev pub at_least_zero : ℤ → ℤ
at_least_zero z = int_max (pos 0) z

-- principal and interest that were collected and not yet remitted; nothing for a settled loan
abbrev pub pi_held : ℤ → ℤ → Bool → ℤ
pi_held collected remitted settled = if settled then pos 0 else at_least_zero (collected -ℤ remitted)

-- what was remitted before it was collected; nothing for a settled loan
abbrev pub pi_advanced : ℤ → ℤ → Bool → ℤ
pi_advanced collected remitted settled = if settled then pos 0 else at_least_zero (remitted -ℤ collected)

-- what a settled loan leaves to the servicer, or takes from it
abbrev pub pi_residual : ℤ → ℤ → Bool → ℤ
pi_residual collected remitted settled = if settled then collected -ℤ remitted else pos 0

-- the borrower's money: what is not yet applied, and an escrow balance above 0
abbrev pub escrow_held : ℤ → ℤ → ℤ
escrow_held escrow suspense = suspense +ℤ at_least_zero escrow

-- what the servicer paid out of an escrow account that did not cover it
abbrev pub escrow_advanced : ℤ → ℤ
escrow_advanced escrow = at_least_zero (neg_ℤ escrow)
