-- What a lawful plan settles lies within the parts.
use Rattle.std.proofs.Common.{◌≡◌, ℕ, ◌≤◌, None, ℤ, pos, negsuc, ◌+ℤ◌, ◌≤ℤ◌, arith, sym, ◌∙◌, Bool}
use Rattle.std.specs.Prelude.{int_div}
use Rattle.std.proofs.Math.Nat.{div-le_self}
use Rattle.std.proofs.lemmas.Int.{ints}
use Rattle.std.proofs.lemmas.Bool.Decides.{nat_tests}
use Rattle.svc_types.specs.declared.escrow.Plan.{Plan}
use Rattle.svc_types.specs.declared.escrow.SurplusPlan.{SurplusPlan}
use Rattle.svc_types.specs.declared.escrow.SurplusPlan.TheVariants as surplus
use Rattle.svc_types.specs.declared.escrow.PartPlan.{PartPlan}
use Rattle.svc_types.specs.declared.escrow.PartPlan.TheVariants as part
use Rattle.svc_types.specs.declared.escrow.PlanPart.{PlanPart}
use Rattle.svc_types.specs.declared.escrow.PlanPart.TheVariants.{Short, Deficient}
use Rattle.escrow_resolve.specs.declared.analysis.Parts.{Parts}
use Rattle.escrow_resolve.specs.Parts.{AreParts}
use Rattle.escrow_resolve.specs.Lawful.{first_fault, surplus_rows, part_rows, plan_fault}
use Rattle.escrow_resolve.specs.Settlement.{refunded, credited, monthly, months, within30, settled_plan}
use Rattle.escrow_resolve.specs.Limits.{IsShare, IsWithinParts}
use Rattle.escrow_resolve.proofs.LawfulLemmas.{plan_fault-is, or-none}

share_of : (amount : ℤ) (n : ℕ) → pos 0 ≤ℤ amount → IsShare amount (int_div amount (pos n))
share_of (pos a) n low = record { low = omega (arith, ints); high = omega (arith, ints, div-le_self a n) }
share_of (negsuc a) n low = absurd (omega (arith, ints))

none_of : (part : ℤ) → pos 0 ≤ℤ part → IsShare part (pos 0)
none_of part low = record { low = omega (arith, ints); high = low }

all_of : (part : ℤ) → pos 0 ≤ℤ part → IsShare part part
all_of part low = record { low = low; high = omega (arith, ints) }

refund_share : (choice : SurplusPlan) (amount : ℤ) → pos 0 ≤ℤ amount → IsShare amount (refunded choice amount)
refund_share surplus.Unsaid amount low = all_of amount low
refund_share surplus.Refund amount low = all_of amount low
refund_share surplus.Credit amount low = none_of amount low
refund_share surplus.Retain amount low = none_of amount low

credit_share : (choice : SurplusPlan) (amount : ℤ) → pos 0 ≤ℤ amount → IsShare amount (credited choice amount)
credit_share surplus.Unsaid amount low = none_of amount low
credit_share surplus.Refund amount low = none_of amount low
credit_share surplus.Credit amount low = share_of amount 12 low
credit_share surplus.Retain amount low = none_of amount low

monthly_share : (choice : PartPlan) (amount : ℤ) → pos 0 ≤ℤ amount → IsShare amount (monthly choice amount)
monthly_share part.Unsaid amount low = none_of amount low
monthly_share part.Leave amount low = none_of amount low
monthly_share part.Within30 amount low = none_of amount low
monthly_share (part.Spread n) amount low = share_of amount n low

within_share : (choice : PartPlan) (amount : ℤ) → pos 0 ≤ℤ amount → IsShare amount (within30 choice amount)
within_share part.Unsaid amount low = none_of amount low
within_share part.Leave amount low = none_of amount low
within_share part.Within30 amount low = all_of amount low
within_share (part.Spread n) amount low = none_of amount low

both_shares : (a b c d : ℤ) → IsShare a c → IsShare b d → IsShare (a +ℤ b) (c +ℤ d)
both_shares a b c d p q = record { low = omega (arith, ints, p.low, q.low); high = omega (arith, ints, p.high, q.high) }

-- a part without a fault is spread over 60 months at most
months_most : (name : PlanPart) (least : ℕ) (base amount : ℤ) (choice : PartPlan) → first_fault (part_rows name least base amount choice) ≡ None → months choice ≤ 60
months_most name least base amount part.Unsaid h = omega arith
months_most name least base amount part.Leave h = omega arith
months_most name least base amount part.Within30 h = omega arith
months_most name least base amount (part.Spread n) h = grind (arith, nat_tests)

pub settled_plan-within : (p : Parts) (base : ℤ) (current : Bool) (start : ℕ) (plan : Plan) → AreParts p → plan_fault p base current plan ≡ None → IsWithinParts p (settled_plan p base start plan)
settled_plan-within p base current start plan are lawful =
    let none = or-none (first_fault (surplus_rows current p.surplus plan.surplus)) (first_fault (part_rows Short 12 base p.short plan.short)) (first_fault (part_rows Deficient 2 base p.deficient plan.deficient)) (sym (plan_fault-is p base current plan) ∙ lawful) in
    record {
      refund = refund_share plan.surplus p.surplus are.surplus_low;
      credit = credit_share plan.surplus p.surplus are.surplus_low;
      short = monthly_share plan.short p.short are.short_low;
      deficient = monthly_share plan.deficient p.deficient are.deficient_low;
      within30 = both_shares _ _ _ _ (within_share plan.short p.short are.short_low) (within_share plan.deficient p.deficient are.deficient_low);
      short_months = months_most Short 12 base p.short plan.short none.1;
      deficient_months = months_most Deficient 2 base p.deficient plan.deficient none.2;
    }
