-- What is settled is known by its fields.
use Rattle.std.proofs.Common.{◌≡◌, ℕ, ℤ}
use Rattle.svc_types.specs.declared.escrow.EscrowPlan.{EscrowPlan}
use Rattle.svc_types.specs.declared.escrow.Settled.{Settled}

pub plan_fields : (start short_months deficient_months short_months' deficient_months' : ℕ) (base credit short deficient base' credit' short' deficient' : ℤ) → base ≡ base' → credit ≡ credit' → short ≡ short' → short_months ≡ short_months' → deficient ≡ deficient' → deficient_months ≡ deficient_months' → (let x : EscrowPlan = record { start = start; base = base; credit = credit; short = short; short_months = short_months; deficient = deficient; deficient_months = deficient_months } in let y : EscrowPlan = record { start = start; base = base'; credit = credit'; short = short'; short_months = short_months'; deficient = deficient'; deficient_months = deficient_months' } in x ≡ y)
plan_fields _ _ _ _ _ _ _ _ _ _ _ _ _ a b c d e f = cc

pub settled_fields : (plan plan' : EscrowPlan) (refund within30 refund' within30' : ℤ) → plan ≡ plan' → refund ≡ refund' → within30 ≡ within30' → (let x : Settled = record { plan = plan; refund = refund; within30 = within30 } in let y : Settled = record { plan = plan'; refund = refund'; within30 = within30' } in x ≡ y)
settled_fields _ _ _ _ _ _ a b c = cc
