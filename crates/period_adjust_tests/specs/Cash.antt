-- Within which limits the totals and balances of the tests lie.
use Rattle.std.specs.Prelude.{ℤ, pos, neg_ℤ, ◌≤ℤ◌}
use Rattle.custodial_book.specs.declared.row.Totals.{Totals}

-- a number of 32 bits
pub record IsSmall (z : ℤ) : Type 0 where
  pub low : pos 0 ≤ℤ z
  pub high : z ≤ℤ pos 4_294_967_295

pub record AreSmall (t : Totals) : Type 0 where
  pub received : IsSmall t.received
  pub returned : IsSmall t.returned
  pub refunded : IsSmall t.refunded
  pub disbursed : IsSmall t.disbursed
  pub collected : IsSmall t.collected
  pub fee : IsSmall t.fee
  pub late : IsSmall t.late
  pub pi_advance : IsSmall t.pi_advance
  pub escrow_advance : IsSmall t.escrow_advance
  pub remitted : IsSmall t.remitted
  pub residual : IsSmall t.residual

-- no further from 0 than 10,000,000.00
pub record IsLow (z : ℤ) : Type 0 where
  pub low : neg_ℤ (pos 1_000_000_000) ≤ℤ z
  pub high : z ≤ℤ pos 1_000_000_000
