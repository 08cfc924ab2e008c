-- Limits of an escrow analysis of a loan: of its year, its opening, its parts and what a lawful plan settles.
use Rattle.std.proofs.Common.{◌≡◌, ℕ, ◌+◌, ◌*◌, ◌≤◌, true, false, List, [], ◌∷◌, map, length, arith, refl}
use Rattle.std.specs.Prelude.{ℤ, pos, ◌+ℤ◌, ◌-ℤ◌, ◌≤ℤ◌, unsigned_abs, fold, take, if◌then◌else◌, None}
use Rattle.std.specs.Int.{int_max}
use Rattle.std.specs.List.{All, range_with_len}
use Rattle.std.proofs.lemmas.Int.{ints, clamps}
use Rattle.std.proofs.lemmas.List.{length-map, length-take}
use Rattle.std.proofs.lemmas.List.Elements.{All-head, All-tail, All-map, All-take}
use Rattle.std.proofs.Math.Nat.{mul-suc, mul-le-mul_left}
use Rattle.svc_base.specs.Calendar.{number_in_year}
use Rattle.svc_types.specs.declared.account.Act.TheVariants.{Analyse}
use Rattle.svc_types.specs.declared.escrow.Plan.{Plan}
use Rattle.svc_spec.specs.Books.{IsAct}
use Rattle.svc_spec.specs.Totals.{received, refunded}
use Rattle.escrow_lines.specs.declared.line.Line.{Line}
use Rattle.escrow_lines.specs.Bills.{IsBill, cents_in, falls_in}
use Rattle.escrow_lines.specs.BillLists.{AreLines, month_total, year_of}
use Rattle.escrow_analysis.specs.AggregateAnalysis.{months, total, base, cushion, trial}
use Rattle.escrow_resolve.specs.Parts.{AreParts, surplus, shortage, deficiency}
use Rattle.escrow_resolve.proofs.LimitLemmas.{settled_plan-within}
use Rattle.svc_world.specs.Held.{Held, books_now}
use Rattle.svc_world.specs.Analysing.{year_begins, year_of_loan, cushion_months, least_opening, opening_of, parts_of, is_current_now, loan_plan_fault, settlement_of}
use Rattle.svc_world.specs.Worlds.{IsNamedAct, IsHeld}
use Rattle.svc_world.proofs.SumsWithin.{IsUpTo}
use Rattle.svc_world.proofs.HoldingLemmas.{AreHoldings, account_holdings}
use Rattle.svc_world.proofs.LimitedLemmas.{escrow_covered}

-- ---- what lines pay out

fold_within : (m : ℕ) (xs : List ℤ) (z : ℤ) → All (IsUpTo m) xs → (z ≤ℤ fold ◌+ℤ◌ z xs) × (fold ◌+ℤ◌ z xs ≤ℤ (z +ℤ pos (m * length xs)))
fold_within m [] z h = (omega (arith, ints), omega (arith, ints))
fold_within m (x ∷ xs) z h =
    let here = All-head (IsUpTo m) x xs h in
    let rest = fold_within m xs (z +ℤ x) (All-tail (IsUpTo m) x xs h) in
    let l1 = here.low in let h1 = here.high in
    let r0 = rest.0 in let r1 = rest.1 in
    let more = mul-suc m (length xs) in
    (omega (arith, ints, r0, l1), omega (arith, ints, r1, h1, more))

one_paid : (number : ℕ) (line : Line) → IsBill line → IsUpTo 10_000_000_000 (cents_in number line)
unfolding cents_in
one_paid number line h =
    let low = h.cents_low in let high = h.cents_high in
    elim (falls_in line number) as (λ v. IsUpTo 10_000_000_000 (if v then line.cents else pos 0)) [
      | true ↦ record { low = omega (arith, ints, low); high = high }
      | false ↦ record { low = omega (arith, ints); high = omega (arith, ints) }
    ]

month_paid : (lines : List Line) (number : ℕ) → AreLines lines → IsUpTo 160_000_000_000 (month_total lines number)
month_paid lines number h =
    let each = All-map (IsUpTo 10_000_000_000) (cents_in number) lines (λ k d lt. one_paid number _ (h.bills k d lt)) in
    let sum = fold_within 10_000_000_000 (map (cents_in number) lines) (pos 0) each in
    let s0 = sum.0 in let s1 = sum.1 in
    let few = h.few in
    let count = length-map lines (cents_in number) in
    record { low = omega (arith, ints, s0); high = omega (arith, ints, s1, few, count) }

year_paid : (lines : List Line) (first : ℕ) → AreLines lines → All (IsUpTo 160_000_000_000) (year_of lines first)
year_paid lines first h = All-map (IsUpTo 160_000_000_000) (λ k. month_total lines (number_in_year (first + k))) (range_with_len 0 12) (λ k d lt. month_paid lines _ h)

-- a year of 12 months
pub record IsYear (year : List ℤ) : Type 0 where
  pub paid : All (IsUpTo 160_000_000_000) year
  pub months : length year ≡ 12

pub loan_year : (l : Held) → AreLines l.lines → IsYear (year_of_loan l)
loan_year l h = record { paid = year_paid l.lines (year_begins l) h; months = refl }

-- ---- the year's sums

taken_total : (year : List ℤ) (k : ℕ) → IsYear year → IsUpTo 1_920_000_000_000 (total (take k year))
taken_total year k h =
    let sum = fold_within 160_000_000_000 (take k year) (pos 0) (All-take (IsUpTo 160_000_000_000) k year h.paid) in
    let s0 = sum.0 in let s1 = sum.1 in
    let count = length-take k year in
    let twelve = h.months in
    record { low = omega (arith, ints, s0); high = omega (arith, ints, s1, count, twelve) }

year_total : (year : List ℤ) → IsYear year → IsUpTo 1_920_000_000_000 (total year)
year_total year h =
    let sum = fold_within 160_000_000_000 year (pos 0) h.paid in
    let s0 = sum.0 in let s1 = sum.1 in
    let twelve = h.months in
    record { low = omega (arith, ints, s0); high = omega (arith, ints, s1, twelve) }

abs_up_to : (z : ℤ) (m : ℕ) → IsUpTo m z → unsigned_abs z ≤ m
abs_up_to z m h = let low = h.low in let high = h.high in omega (arith, ints, low, high)

base_within : (year : List ℤ) → IsYear year → IsUpTo 160_000_000_000 (base year)
base_within year h =
    let most = abs_up_to (total year) 1_920_000_000_000 (year_total year h) in
    record { low = omega (arith, ints); high = omega (arith, ints, most) }

cushion_within : (year : List ℤ) (n : ℕ) → IsYear year → n ≤ 2 → IsUpTo 320_000_000_000 (cushion year n)
cushion_within year n h le =
    let most = abs_up_to (total year) 1_920_000_000_000 (year_total year h) in
    let by_two = times n (unsigned_abs (total year)) le most in
    record { low = omega (arith, ints); high = omega (arith, ints, by_two) }
  where
    times : (n t : ℕ) → n ≤ 2 → t ≤ 1_920_000_000_000 → n * t ≤ 3_840_000_000_000
    times n t le most =
        let one = mul-le-mul_left n most in
        omega (arith, one, le)

trial_low : (year : List ℤ) (k : ℕ) → IsYear year → pos 0 ≤ℤ (trial year k +ℤ pos 1_920_000_000_000)
trial_low year k h =
    let paid = (taken_total year k h).high in
    omega (arith, ints, paid)

-- ---- the opening

greatest : (m z : ℤ) (g : ℕ → ℤ) (ks : List ℕ) → z ≤ℤ m → ((k : ℕ) → g k ≤ℤ m) → (z ≤ℤ fold (λ most k. int_max most (g k)) z ks) × (fold (λ most k. int_max most (g k)) z ks ≤ℤ m)
greatest m z g [] le each = (omega (arith, ints), le)
greatest m z g (k ∷ ks) le each =
    let here = each k in
    let rest = greatest m (int_max z (g k)) g ks (omega (arith, ints, clamps, le, here)) each in
    let r0 = rest.0 in
    (omega (arith, ints, clamps, r0), rest.1)

opening_within : (year : List ℤ) (n : ℕ) → IsYear year → n ≤ 2 → IsUpTo 4_000_000_000_000 (least_opening year n)
opening_within year n h le =
    let c = cushion_within year n h le in
    let c0 = c.low in let c1 = c.high in
    let all = greatest (pos 4_000_000_000_000) (cushion year n) (λ k. cushion year n -ℤ trial year k) months (omega (arith, ints, c1)) (λ k. let low = trial_low year k h in omega (arith, ints, c1, low)) in
    let a0 = all.0 in
    record { low = omega (arith, ints, c0, a0); high = all.1 }

-- ---- parts and settlement

-- the parts of an analysis
pub record ArePartsWithin (l : Held) : Type 0 where
  pub parts : AreParts (parts_of l)
  pub surplus : (parts_of l).surplus ≤ℤ int_max (pos 0) (books_now l).escrow
  pub short : (parts_of l).short ≤ℤ pos 4_000_000_000_000
  pub deficient : (parts_of l).deficient ≤ℤ pos 81_920_000_000_000

-- the numbers of an analysis are within their limits
pub record IsAnalysed (l : Held) : Type 0 where
  pub year : IsYear (year_of_loan l)
  pub base : IsUpTo 160_000_000_000 (base (year_of_loan l))
  pub opening : IsUpTo 4_000_000_000_000 (opening_of l)
  pub within : ArePartsWithin l

parts_within : (l : Held) → IsUpTo 4_000_000_000_000 (opening_of l) → AreHoldings (books_now l) → ArePartsWithin l
unfolding surplus shortage deficiency
parts_within l opening h =
    let o0 = opening.low in let o1 = opening.high in
    let e0 = h.escrow_low in let e1 = h.escrow_high in
    record {
      parts = record {
        surplus_low = omega (arith, ints, clamps);
        surplus_high = omega (arith, ints, clamps, o0, e1);
        short_low = omega (arith, ints, clamps);
        short_high = omega (arith, ints, clamps, o1);
        deficient_low = omega (arith, ints, clamps);
        deficient_high = omega (arith, ints, clamps, e0);
      };
      surplus = omega (arith, ints, clamps, o0);
      short = omega (arith, ints, clamps, o1);
      deficient = omega (arith, ints, clamps, e0);
    }

pub is_analysed : (n day : ℕ) (l : Held) → IsHeld n day l → IsAnalysed l
is_analysed n day l h =
    let year = loan_year l h.lines in
    let opening = opening_within (year_of_loan l) (cushion_months l) year h.limited.account.terms.cushion in
    record { year = year; base = base_within (year_of_loan l) year; opening = opening; within = parts_within l opening (account_holdings l.account h.limited) }

-- what a lawful plan settles is an act that may be posted
pub record IsSettlement (l : Held) (plan : Plan) : Type 0 where
  pub act : IsAct (Analyse (settlement_of l plan))
  pub named : IsNamedAct (Analyse (settlement_of l plan))
  pub covered : (refunded l.account +ℤ (settlement_of l plan).refund) ≤ℤ received l.account

pub is_settlement : (n day : ℕ) (l : Held) (plan : Plan) → IsHeld n day l → loan_plan_fault l plan ≡ None → IsSettlement l plan
is_settlement n day l plan h lawful =
    let all = is_analysed n day l h in
    let w = settled_plan-within (parts_of l) (base (year_of_loan l)) (is_current_now l) (year_begins l) plan all.within.parts lawful in
    let holds = account_holdings l.account h.limited in
    let covered = escrow_covered l.account h.limited in
    let e1 = holds.escrow_high in
    let s1 = all.within.surplus in let s2 = all.within.short in let s3 = all.within.deficient in
    let b0 = all.base.low in let b1 = all.base.high in
    let r0 = w.refund.low in let r1 = w.refund.high in
    let c0 = w.credit.low in let c1 = w.credit.high in
    let h0 = w.short.low in let h1 = w.short.high in
    let d0 = w.deficient.low in let d1 = w.deficient.high in
    let i0 = w.within30.low in let i1 = w.within30.high in
    record {
      act = (
        record { low = r0; high = omega (arith, ints, clamps, r1, s1, e1) },
        record { low = i0; high = omega (arith, ints, i1, s2, s3) },
        record {
          base = record { low = b0; high = omega (arith, ints, b1) };
          credit = record { low = c0; high = omega (arith, ints, clamps, c1, s1, e1) };
          short = record { low = h0; high = omega (arith, ints, h1, s2) };
          short_months = w.short_months;
          deficient = record { low = d0; high = omega (arith, ints, d1, s3) };
          deficient_months = w.deficient_months;
        },
      );
      named = record { low = r0; high = omega (arith, ints, clamps, r1, s1, e1) };
      covered = omega (arith, ints, clamps, r1, s1, covered);
    }
