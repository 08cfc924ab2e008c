-- A change of two months that are closed.
use Rattle.std.proofs.Common.{◌≡◌, ℕ, zero, suc, ◌<◌, ◌≤◌, true, false, List, [], ◌∷◌, length, get_or, arith, ap, sym, ◌∙◌, subst, refl}
use Rattle.std.specs.Prelude.{if◌then◌else◌}
use Rattle.std.specs.List.{AllPairs}
use Rattle.std.proofs.lemmas.Int.{ints}
use Rattle.std.proofs.lemmas.List.{length-append}
use Rattle.std.proofs.lemmas.List.Elements.{All-nil, All-cons}
use Rattle.remit_types.specs.declared.dues.MonthDue.{MonthDue}
use Rattle.period_adjust.specs.Sealed.{Sealed, Reporting}
use Rattle.period_adjust.specs.Sums.{Interest, Principal, report_of}
use Rattle.period_adjust.specs.Changes.{is_unchanged, adjustment, change_of, adjustments_of}
use Rattle.period_adjust.specs.Totals.{total}
use Rattle.period_adjust.specs.Conditions.{IsClosed, IsDueSoFar, MayChange}
use Rattle.period_adjust.specs.Worked.{worked_line, worked_reports, AreTwoMonths}
use Rattle.period_adjust.proofs.BeforeLemmas.{by_month}

pub few_adjustments : (number l : ℕ) (bs later : List MonthDue) → length (adjustments_of number l bs later) ≤ length bs
few_adjustments number l [] later = omega arith
few_adjustments number l (b ∷ bs) [] = omega arith
few_adjustments number l (b ∷ bs) (a ∷ later) =
    let rest : length (adjustments_of number l bs later) ≤ length bs = few_adjustments number l bs later in
    let one : length (change_of number l b a) ≤ 1 =
    elim (is_unchanged b a) as (λ u. length (if u then [] else adjustment number l b a ∷ []) ≤ 1) [ true ↦ omega arith | false ↦ omega arith ] in
    omega (arith, length-append (change_of number l b a) (adjustments_of number l bs later))

two_rise : (d e : MonthDue) → d.month < e.month → AllPairs by_month (d ∷ e ∷ [])
two_rise d e h zero zero x less in' = absurd (omega arith)
two_rise d e h zero (suc zero) x less in' = h
two_rise d e h zero (suc (suc j)) x less in' = absurd (omega arith)
two_rise d e h (suc i) zero x less in' = absurd (omega arith)
two_rise d e h (suc i) (suc zero) x less in' = absurd (omega arith)
two_rise d e h (suc i) (suc (suc j)) x less in' = absurd (omega arith)

february_so_far : (f m : MonthDue) → f.month ≡ 24_289 → IsDueSoFar (worked_reports f m) 1 f
february_so_far f m e =
    let interest : total Interest 1 24_289 (worked_reports f m) ≡ f.interest = omega (arith, ints) in
    let principal : total Principal 1 24_289 (worked_reports f m) ≡ f.principal = omega (arith, ints) in
    record {
      interest = sym (ap (λ n. total Interest 1 n (worked_reports f m)) e ∙ interest);
      principal = sym (ap (λ n. total Principal 1 n (worked_reports f m)) e ∙ principal);
    }

march_so_far : (f m : MonthDue) → m.month ≡ 24_290 → IsDueSoFar (worked_reports f m) 1 m
march_so_far f m e =
    let interest : total Interest 1 24_290 (worked_reports f m) ≡ m.interest = omega (arith, ints) in
    let principal : total Principal 1 24_290 (worked_reports f m) ≡ m.principal = omega (arith, ints) in
    record {
      interest = sym (ap (λ n. total Interest 1 n (worked_reports f m)) e ∙ interest);
      principal = sym (ap (λ n. total Principal 1 n (worked_reports f m)) e ∙ principal);
    }

two_change : (number : ℕ) (f m g n : MonthDue) → AreTwoMonths (f ∷ m ∷ []) (g ∷ n ∷ []) → MayChange (worked_reports f m) number 1 (f ∷ m ∷ []) (g ∷ n ∷ [])
two_change number f m g n two =
    let s : Reporting = worked_reports f m in
    let f-month : f.month ≡ 24_289 = cc two.was_months in
    let m-month : m.month ≡ 24_290 = cc two.was_months in
    let g-month : g.month ≡ 24_289 = cc two.is_months in
    let n-month : n.month ≡ 24_290 = cc two.is_months in
    let february : Sealed = report_of 24_289 (worked_line f ∷ []) [] in
    let march : Sealed = report_of 24_290 (worked_line m ∷ []) [] in
    record {
      same_months = two.is_months ∙ sym two.was_months;
      closed = All-cons (λ (d : MonthDue). IsClosed s.reports d.month) g (n ∷ []) (2, february, omega arith, refl, sym g-month)
          (All-cons (λ (d : MonthDue). IsClosed s.reports d.month) n [] (3, march, omega arith, refl, sym n-month) (All-nil (λ (d : MonthDue). IsClosed s.reports d.month)));
      rising = two_rise g n (omega arith);
      so_far = All-cons (IsDueSoFar s 1) f (m ∷ []) (february_so_far f m f-month) (All-cons (IsDueSoFar s 1) m [] (march_so_far f m m-month) (All-nil (IsDueSoFar s 1)));
      before_small = two.was_small;
      later_small = two.is_small;
      few = omega (arith, few_adjustments number 1 (f ∷ m ∷ []) (g ∷ n ∷ []));
    }

now_change : (number : ℕ) (f m : MonthDue) (is : List MonthDue) → AreTwoMonths (f ∷ m ∷ []) is → MayChange (worked_reports f m) number 1 (f ∷ m ∷ []) is
now_change number f m [] two = cc two.is_months
now_change number f m (g ∷ []) two = cc two.is_months
now_change number f m (g ∷ (n ∷ [])) two = two_change number f m g n two
now_change number f m (g ∷ (n ∷ (x ∷ xs))) two = cc two.is_months

was_change : (number : ℕ) (was is : List MonthDue) (f m : MonthDue) → f ≡ get_or was 0 f → m ≡ get_or was 1 m → AreTwoMonths was is → MayChange (worked_reports f m) number 1 was is
was_change number [] is f m e h two = cc two.was_months
was_change number (b ∷ []) is f m e h two = cc two.was_months
was_change number (b ∷ (c ∷ (x ∷ xs))) is f m e h two = cc two.was_months
was_change number (b ∷ (c ∷ [])) is f m e h two =
    let first : MayChange (worked_reports f c) number 1 (b ∷ c ∷ []) is = subst (λ (x : MonthDue). MayChange (worked_reports x c) number 1 (b ∷ c ∷ []) is) (sym e) (now_change number b c is two) in
    subst (λ (x : MonthDue). MayChange (worked_reports f x) number 1 (b ∷ c ∷ []) is) (sym h) first

pub months_change : (s : Reporting) (number : ℕ) (was is : List MonthDue) (f m : MonthDue) → s ≡ worked_reports f m → f ≡ get_or was 0 f → m ≡ get_or was 1 m → AreTwoMonths was is → MayChange s number 1 was is
months_change s number was is f m same e h two = subst (λ (x : Reporting). MayChange x number 1 was is) (sym same) (was_change number was is f m e h two)
