-- The analysis of a loan, from its parts as they are called.
use Rattle.std.proofs.Common.{◌≡◌, ℕ, Bool, List, map, ℤ, pos, ◌≤ℤ◌, ◌+ℤ◌, w64, to_z, of_z, arith, refl, ap, subst, ◌∙◌}
use Rattle.std.proofs.lemmas.Int.{ints}
use Rattle.svc_types.specs.declared.escrow.Plan.{Plan}
use Rattle.escrow_analysis.specs.declared.analysis.Analysis.{Analysis}
use Rattle.escrow_analysis.specs.AggregateAnalysis.{months, base, cushion, trial, target, IsLeastOpening}
use Rattle.escrow_resolve.specs.declared.analysis.Parts.{Parts}
use Rattle.escrow_resolve.specs.Lawful.{plan_fault}
use Rattle.svc_world.specs.Held.{Held}
use Rattle.svc_world.specs.Analysing.{year_of_loan, cushion_months, least_opening, opening_of, parts_of, is_current_now, loan_plan_fault, analysis_of}
use Rattle.svc_world.proofs.OpeningLemmas.{opening_is}
use Rattle.svc_loan.proofs.ClosedLemmas.{cents_same}

pub escrow_same : (z : ℤ) → pos 0 ≤ℤ (z +ℤ pos 1_000_000_000_000_000_000) → z ≤ℤ pos 1_000_000_000_000_000_000 → to_z w64 (of_z w64 z) ≡ z
escrow_same z low high = cents_same z (omega (arith, ints)) (omega (arith, ints))

pub amount_same : (z : ℤ) → pos 0 ≤ℤ z → z ≤ℤ pos 2_240_000_000_000 → to_z w64 (of_z w64 z) ≡ z
amount_same z low high = cents_same z (omega (arith, ints)) (omega (arith, ints))

pub low_enough : (z : ℤ) → z ≤ℤ pos 160_000_000_000 → z ≤ℤ pos 2_240_000_000_000
low_enough z le = omega (arith, ints, le)

pub opening_same : (l : Held) (year : List ℤ) (n : ℕ) (o : ℤ) → year ≡ year_of_loan l → n ≡ cushion_months l → IsLeastOpening year n o → cushion year n ≤ℤ o → o ≡ opening_of l
opening_same l year n o ye ne least above = opening_is year n o least above ∙ ap (λ y. least_opening y n) ye ∙ ap (least_opening (year_of_loan l)) ne

pub fault_same : (l : Held) (plan : Plan) (p : Parts) (b : ℤ) (now : Bool) → p ≡ parts_of l → b ≡ base (year_of_loan l) → now ≡ is_current_now l → plan_fault p b now plan ≡ loan_plan_fault l plan
fault_same l plan p b now pe be ne = ap (λ x. plan_fault x b now plan) pe ∙ ap (λ x. plan_fault (parts_of l) x now plan) be ∙ ap (λ x. plan_fault (parts_of l) (base (year_of_loan l)) x plan) ne

-- ---- the whole analysis

abbrev analysed : ℤ → ℤ → ℤ → List ℤ → List ℤ → Analysis
analysed b c o t g = record { base = b; cushion = c; opening = o; trial = t; target = g }

same_parts : {b b' c c' o o' : ℤ} {t t' g g' : List ℤ} → b ≡ b' → c ≡ c' → o ≡ o' → t ≡ t' → g ≡ g' → analysed b c o t g ≡ analysed b' c' o' t' g'
same_parts p q r s t = rw (p, q, r, s, t) refl

-- an analysis of the loan's year
pub analysis_same : (l : Held) (year : List ℤ) (n : ℕ) (a : Analysis) → year ≡ year_of_loan l → n ≡ cushion_months l → a.base ≡ base year → a.cushion ≡ cushion year n → IsLeastOpening year n a.opening → a.trial ≡ map (trial year) months → a.target ≡ map (target year a.opening) months → a.cushion ≤ℤ a.opening → a ≡ analysis_of l
analysis_same l year n a ye ne b c o t g above =
    let opening = opening_same l year n a.opening ye ne o (subst (λ z. z ≤ℤ a.opening) c above) in
    same_parts
    (b ∙ ap base ye)
    (c ∙ ap (λ y. cushion y n) ye ∙ ap (cushion (year_of_loan l)) ne)
    opening
    (t ∙ ap (λ y. map (trial y) months) ye)
    (g ∙ ap (λ y. map (target y a.opening) months) ye ∙ ap (λ z. map (target (year_of_loan l) z) months) opening)
