-- What a lawful plan settles.
use Rattle.std.specs.Prelude.{ℕ, ◌+ℤ◌, ℤ, pos, int_div}
use Rattle.svc_types.specs.declared.escrow.Plan.{Plan}
use Rattle.svc_types.specs.declared.escrow.EscrowPlan.{EscrowPlan}
use Rattle.svc_types.specs.declared.escrow.Settled.{Settled}
use Rattle.svc_types.specs.declared.escrow.SurplusPlan.{SurplusPlan}
use Rattle.svc_types.specs.declared.escrow.SurplusPlan.TheVariants as surplus
use Rattle.svc_types.specs.declared.escrow.PartPlan.{PartPlan}
use Rattle.svc_types.specs.declared.escrow.PartPlan.TheVariants as part
use Rattle.escrow_resolve.specs.declared.analysis.Parts.{Parts}

-- the surplus that is paid out: all of it where nothing is said, or refund
abbrev pub refunded : SurplusPlan → ℤ → ℤ
refunded surplus.Unsaid surplus = surplus
refunded surplus.Refund surplus = surplus
refunded surplus.Credit surplus = pos 0
refunded surplus.Retain surplus = pos 0

-- what a credited surplus takes off each of twelve payments, rounded down
abbrev pub credited : SurplusPlan → ℤ → ℤ
credited surplus.Credit surplus = int_div surplus (pos 12)
credited _ surplus = pos 0

-- what a spread part asks each month, rounded down; the rest is never asked
abbrev pub monthly : PartPlan → ℤ → ℤ
monthly (part.Spread n) amount = int_div amount (pos n)
monthly _ amount = pos 0

-- for how many months
abbrev pub months : PartPlan → ℕ
months (part.Spread n) = n
months _ = 0

-- what of a part is asked within 30 days
abbrev pub within30 : PartPlan → ℤ → ℤ
within30 part.Within30 amount = amount
within30 _ amount = pos 0

-- the escrow plan that begins with the month start
abbrev pub new_plan : Parts → ℤ → ℕ → Plan → EscrowPlan
new_plan parts base start plan =
    record {
      start = start;
      base = base;
      credit = credited plan.surplus parts.surplus;
      short = monthly plan.short parts.short;
      short_months = months plan.short;
      deficient = monthly plan.deficient parts.deficient;
      deficient_months = months plan.deficient;
    }

abbrev pub settled_plan : Parts → ℤ → ℕ → Plan → Settled
settled_plan parts base start plan =
    record {
      plan = new_plan parts base start plan;
      refund = refunded plan.surplus parts.surplus;
      within30 = within30 plan.short parts.short +ℤ within30 plan.deficient parts.deficient;
    }
