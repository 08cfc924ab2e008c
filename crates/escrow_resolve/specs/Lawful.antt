-- Which plans for an analysis are lawful (12 CFR 1024.17(f) for a borrower who is current).
use Rattle.std.specs.Prelude.{◌≤◌, ⊤, ℕ, nat_lt, Bool, true, false, ◌&&◌, if◌then◌else◌, List, [], ◌∷◌, ◌++◌, Option, None, Some, ℤ, pos, int_le}
use Rattle.svc_types.specs.declared.escrow.Plan.{Plan}
use Rattle.svc_types.specs.declared.escrow.SurplusPlan.{SurplusPlan}
use Rattle.svc_types.specs.declared.escrow.SurplusPlan.TheVariants as surplus
use Rattle.svc_types.specs.declared.escrow.PartPlan.{PartPlan}
use Rattle.svc_types.specs.declared.escrow.PartPlan.TheVariants as part
use Rattle.svc_types.specs.declared.escrow.PlanPart.{PlanPart}
use Rattle.svc_types.specs.declared.escrow.PlanPart.TheVariants.{Surplus, Short, Deficient}
use Rattle.svc_types.specs.declared.faults.PlanFault.{PlanFault}
use Rattle.svc_types.specs.declared.faults.PlanFault.TheVariants.{MustRefund, MustSpread, TooFewMonths, TooManyMonths, NothingToPlan}
use Rattle.escrow_resolve.specs.declared.analysis.Parts.{Parts}

-- a row of the table of faults: where the test holds, the plan has the fault
pub record Row : Type 0 where
  pub holds : Bool
  pub fault : PlanFault

abbrev pub row : Bool → PlanFault → Row
row holds fault = record { holds = holds; fault = fault }

-- a choice is given for the surplus
abbrev pub says : SurplusPlan → Bool
says surplus.Unsaid = false
says _ = true

-- a surplus that may not be kept from a current borrower: it is retained, or 50 dollars or more
-- are credited
abbrev pub keeps_back : SurplusPlan → ℤ → Bool
keeps_back surplus.Retain surplus = true
keeps_back surplus.Credit surplus = int_le (pos 5_000) surplus
keeps_back _ surplus = false

abbrev pub surplus_rows : Bool → ℤ → SurplusPlan → List Row
surplus_rows current surplus choice =
    row (says choice && int_le surplus (pos 0)) (NothingToPlan Surplus) ∷
    row (current && keeps_back choice surplus) MustRefund ∷ []

-- a choice is given for the part
abbrev pub is_said : PartPlan → Bool
is_said part.Unsaid = false
is_said _ = true

-- the months over which a part is spread, if it is spread
abbrev pub spread_months : PartPlan → Option ℕ
spread_months (part.Spread n) = Some n
spread_months _ = None

-- a row on the months of a spread
abbrev pub months_row : (ℕ → Bool) → (ℕ → PlanFault) → Option ℕ → List Row
months_row test fault (Some n) = row (test n) (fault n) ∷ []
months_row test fault None = []

-- the part is asked within 30 days
abbrev pub is_within30 : PartPlan → Bool
is_within30 part.Within30 = true
is_within30 _ = false

abbrev pub part_rows : PlanPart → ℕ → ℤ → ℤ → PartPlan → List Row
part_rows name least base amount choice =
    row (is_said choice && int_le amount (pos 0)) (NothingToPlan name) ∷
    (months_row (λ n. nat_lt n least) TooFewMonths (spread_months choice) ++
    (months_row (λ n. nat_lt 60 n) TooManyMonths (spread_months choice) ++
    (row (is_within30 choice && int_le base amount) (MustSpread name) ∷ [])))

-- the table of faults of a plan, in the order in which they are named: a shortage is spread over
-- at least 12 months, a deficiency over at least 2
abbrev pub fault_rows : Parts → ℤ → Bool → Plan → List Row
fault_rows parts base current plan =
    surplus_rows current parts.surplus plan.surplus ++
    (part_rows Short 12 base parts.short plan.short ++
    part_rows Deficient 2 base parts.deficient plan.deficient)

-- the fault of the first row that holds
abbrev pub first_fault : List Row → Option PlanFault
first_fault [] = None
first_fault (r ∷ rows) = if r.holds then Some r.fault else first_fault rows

-- the fault of a plan, if it has one
unfoldable pub plan_fault : Parts → ℤ → Bool → Plan → Option PlanFault
plan_fault parts base current plan = first_fault (fault_rows parts base current plan)

-- where the part is spread, it is spread over a month or more
abbrev pub IsSpread : PartPlan → Type 0
IsSpread (part.Spread n) = 1 ≤ n
IsSpread _ = ⊤
