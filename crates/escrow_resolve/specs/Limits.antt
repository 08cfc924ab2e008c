-- Within which limits lies what a plan settles.
use Rattle.std.specs.Prelude.{◌≤◌, ℤ, pos, ◌+ℤ◌, ◌≤ℤ◌}
use Rattle.svc_types.specs.declared.escrow.Settled.{Settled}
use Rattle.escrow_resolve.specs.declared.analysis.Parts.{Parts}

-- an amount lies from 0 to its part
pub record IsShare (part amount : ℤ) : Type 0 where
  pub low : pos 0 ≤ℤ amount
  pub high : amount ≤ℤ part

-- no amount is more than its part, and what is spread is spread over 60 months at most
pub record IsWithinParts (p : Parts) (s : Settled) : Type 0 where
  pub refund : IsShare p.surplus s.refund
  pub credit : IsShare p.surplus s.plan.credit
  pub short : IsShare p.short s.plan.short
  pub deficient : IsShare p.deficient s.plan.deficient
  pub within30 : IsShare (p.short +ℤ p.deficient) s.within30
  pub short_months : s.plan.short_months ≤ 60
  pub deficient_months : s.plan.deficient_months ≤ 60
