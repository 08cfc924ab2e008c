-- How the faults of the parts make the fault of a plan.
use Rattle.std.proofs.Common.{◌≡◌, ℕ, ◌≤◌, Bool, List, [], ◌∷◌, ◌++◌, Option, None, Some, ℤ, refl, arith, ◌∙◌, ap}
use Rattle.std.specs.Option.{option_or}
use Rattle.svc_types.specs.declared.escrow.Plan.{Plan}
use Rattle.svc_types.specs.declared.escrow.PartPlan.{PartPlan}
use Rattle.svc_types.specs.declared.escrow.PartPlan.TheVariants as part
use Rattle.svc_types.specs.declared.escrow.PlanPart.{PlanPart}
use Rattle.svc_types.specs.declared.escrow.PlanPart.TheVariants.{Short, Deficient}
use Rattle.svc_types.specs.declared.faults.PlanFault.{PlanFault}
use Rattle.escrow_resolve.specs.declared.analysis.Parts.{Parts}
use Rattle.escrow_resolve.specs.Lawful.{Row, first_fault, surplus_rows, part_rows, plan_fault, IsSpread}
use Rattle.std.proofs.lemmas.Bool.Decides.{nat_tests}

-- the fault of the first rows, or where they have none that of the others
first_fault-append : (xs ys : List Row) → first_fault (xs ++ ys) ≡ option_or (first_fault xs) (first_fault ys)
first_fault-append [] ys = refl
first_fault-append (x ∷ xs) ys = grind (arith, first_fault-append xs ys)

or_assoc : (a b c : Option PlanFault) → option_or a (option_or b c) ≡ option_or (option_or a b) c
or_assoc None b c = refl
or_assoc (Some e) b c = refl

-- no fault of three is none of each
pub or-none : (a b c : Option PlanFault) → option_or (option_or a b) c ≡ None → (a ≡ None) × (b ≡ None) × (c ≡ None)
or-none None None None h = (refl, refl, refl)
or-none None None (Some e) h = absurd (cc)
or-none None (Some e) c h = absurd (cc)
or-none (Some e) b c h = absurd (cc)

-- the fault of the surplus, or where there is none that of the shortage, or that of the deficiency
pub plan_fault-is : (p : Parts) (base : ℤ) (current : Bool) (plan : Plan) → plan_fault p base current plan ≡ option_or (option_or (first_fault (surplus_rows current p.surplus plan.surplus)) (first_fault (part_rows Short 12 base p.short plan.short))) (first_fault (part_rows Deficient 2 base p.deficient plan.deficient))
unfolding plan_fault
plan_fault-is p base current plan =
    first_fault-append (surplus_rows current p.surplus plan.surplus) (part_rows Short 12 base p.short plan.short ++ part_rows Deficient 2 base p.deficient plan.deficient)
    ∙ ap (option_or (first_fault (surplus_rows current p.surplus plan.surplus))) (first_fault-append (part_rows Short 12 base p.short plan.short) (part_rows Deficient 2 base p.deficient plan.deficient))
    ∙ or_assoc (first_fault (surplus_rows current p.surplus plan.surplus)) (first_fault (part_rows Short 12 base p.short plan.short)) (first_fault (part_rows Deficient 2 base p.deficient plan.deficient))

-- a part without a fault that is spread is spread over a month or more
pub IsSpread-lawful : (name : PlanPart) (least : ℕ) (base amount : ℤ) (choice : PartPlan) → 1 ≤ least → first_fault (part_rows name least base amount choice) ≡ None → IsSpread choice
IsSpread-lawful name least base amount part.Unsaid l h = tt
IsSpread-lawful name least base amount part.Leave l h = tt
IsSpread-lawful name least base amount part.Within30 l h = tt
IsSpread-lawful name least base amount (part.Spread n) l h = grind (arith, nat_tests)
