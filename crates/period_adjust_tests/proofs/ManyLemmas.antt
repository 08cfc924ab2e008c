-- Many loans whose dues of a closed month are changed one after the other.
use Rattle.std.proofs.Common.{◌≡◌, ◌≢◌, ℕ, ◌+◌, ◌<◌, ◌≤◌, true, false, List, [], ◌∷◌, ◌++◌, length, get_or, set, pos, refl, arith, ap, sym, ◌∙◌, subst}
use Rattle.std.specs.Prelude.{◌==◌, if◌then◌else◌}
use Rattle.std.specs.List.{All, AllPairs}
use Rattle.std.proofs.lemmas.Int.{ints}
use Rattle.std.proofs.lemmas.Bool.Decides.{nat_tests}
use Rattle.std.proofs.lemmas.List.{length-set, length-append, get_or-set_same, get_or-set_other}
use Rattle.std.proofs.lemmas.List.Elements.{All-nil, All-cons, All-append, All-weaker}
use Rattle.svc_base.proofs.SumLemmas.{total_by-zero}
use Rattle.remit_types.specs.declared.dues.MonthDue.{MonthDue}
use Rattle.period_adjust.specs.declared.adjustment.Adjustment.{Adjustment}
use Rattle.period_adjust.specs.declared.report_line.ReportLine.{ReportLine}
use Rattle.period_adjust.specs.Sealed.{Sealed, Reporting, reporting}
use Rattle.period_adjust.specs.Sums.{DuePart, Interest, Principal, report_of}
use Rattle.period_adjust.specs.Changes.{adjustments_of}
use Rattle.period_adjust.specs.Totals.{lined, part_of_due, total, Change, Close, after}
use Rattle.period_adjust.specs.Conditions.{IsAmount, IsSmallDue, IsSmallLine, IsClosed, IsDueSoFar, HasNoSums, AreDues, MayChange}
use Rattle.period_adjust_tests.specs.WorkedMany.{empty_line, AreEmptyLines, worked_due, AreZeros, AreGiven}
use Rattle.period_adjust.proofs.BeforeLemmas.{by_loan, Rises-from_pairs, AreBefore-from_all}
use Rattle.period_adjust.proofs.AddsUp.{lined-report, change_adds_up}
use Rattle.period_adjust.proofs.SealedLemmas.{adjustments_loan}
use Rattle.period_adjust.proofs.WorkedLemmas.{few_adjustments}

small_amount : (n : ℕ) → n ≤ 10_000 → IsAmount (pos n)
small_amount n h = record { low = omega (arith, ints); high = omega (arith, ints) }

-- Lines of nothing.

empty_all : (P : ReportLine → Type 0) (lines : List ReportLine) → ((loan : ℕ) → P (empty_line loan)) → AreEmptyLines lines → All P lines
empty_all P lines each h = λ k d in'.
    let below : k < 3_000 = omega (arith, h.size) in
    subst P (sym (h.each k d below)) (each k)

empty_rising : (lines : List ReportLine) → AreEmptyLines lines → AllPairs by_loan lines
empty_rising lines h = λ i j d less in'.
    let high : j < 3_000 = omega (arith, h.size) in
    let low : i < 3_000 = omega arith in
    let first : (get_or lines i d).loan ≡ i = ap (λ (l : ReportLine). l.loan) (h.each i d low) in
    let second : (get_or lines j d).loan ≡ j = ap (λ (l : ReportLine). l.loan) (h.each j d high) in
    omega arith

pub empty_dues : (pending : List Adjustment) (lines : List ReportLine) → AreEmptyLines lines → All (λ a. a.loan < 3_000) pending → AreDues pending lines
empty_dues pending lines h owned =
    let zero : IsAmount (pos 0) = small_amount 0 (omega arith) in
    record {
      rising = empty_rising lines h;
      no_sums = empty_all HasNoSums lines (λ k. record { interest = refl; principal = refl }) h;
      covered = λ k d in'.
          let own : (get_or pending k d).loan < 3_000 = owned k d in' in
          let below : (get_or pending k d).loan < length lines = omega (arith, h.size) in
          ((get_or pending k d).loan, empty_line (get_or pending k d).loan, below, h.each (get_or pending k d).loan (empty_line (get_or pending k d).loan) own, refl);
      small = empty_all IsSmallLine lines (λ k. record { interest = zero; principal = zero; upb = zero; balance = zero }) h;
    }

empty_lined : (p : DuePart) (loan k : ℕ) → lined p loan (empty_line k) ≡ pos 0
empty_lined Interest loan k = elim (k == loan) as (λ t. (if t then pos 0 else pos 0) ≡ pos 0) [ true ↦ refl | false ↦ refl ]
empty_lined Principal loan k = elim (k == loan) as (λ t. (if t then pos 0 else pos 0) ≡ pos 0) [ true ↦ refl | false ↦ refl ]

pub given_start : (lines : List ReportLine) (cents : List ℕ) → AreEmptyLines lines → AreZeros cents → AreGiven (after (reporting [] []) (Close 24_287 lines)) cents 1
given_start lines cents h z =
    let report : Sealed = report_of 24_287 lines [] in
    record {
      size = z.size;
      closed = (0, report, omega arith, refl, refl);
      last = refl;
      dues = λ p loan in'.
          let none = total_by-zero (lined p loan) lines (empty_all (λ l. lined p loan l ≡ pos 0) lines (empty_lined p loan) h) in
          let same = lined-report p loan [] lines in
          let zero : pos 0 ≡ pos (get_or cents loan 0) = ap pos (sym (z.each loan in')) in
          omega (arith, ints, none, same, zero);
      small = λ k in'. omega (arith, z.each k in');
      held = omega arith;
      owned = All-nil (λ (a : Adjustment). a.loan < 3_000);
    }

-- One command more.

small_due : (n : ℕ) → n ≤ 10_000 → IsSmallDue (worked_due n)
small_due n h = record { interest = small_amount n h; principal = small_amount n h; balance = small_amount 0 (omega arith) }

part_of_worked : (p : DuePart) (n : ℕ) → part_of_due p (worked_due n) ≡ pos n
part_of_worked Interest n = refl
part_of_worked Principal n = refl

pub may_give : (s : Reporting) (cents : List ℕ) (number loan : ℕ) → AreGiven s cents number → number ≤ 9_000 → loan < 3_000 → MayChange s number loan (worked_due (get_or cents loan 0) ∷ []) (worked_due number ∷ [])
may_give s cents number loan g most in' =
    let now : get_or cents loan 0 < number = g.small loan in' in
    let before : MonthDue = worked_due (get_or cents loan 0) in
    let later : MonthDue = worked_due number in
    let so_far : IsDueSoFar s loan before = record { interest = sym (g.dues Interest loan in'); principal = sym (g.dues Principal loan in') } in
    record {
      same_months = refl;
      closed = All-cons (λ (d : MonthDue). IsClosed s.reports d.month) later [] g.closed (All-nil (λ (d : MonthDue). IsClosed s.reports d.month));
      rising = λ i j d less high. absurd (omega arith);
      so_far = All-cons (IsDueSoFar s loan) before [] so_far (All-nil (IsDueSoFar s loan));
      before_small = All-cons IsSmallDue before [] (small_due (get_or cents loan 0) (omega arith)) (All-nil IsSmallDue);
      later_small = All-cons IsSmallDue later [] (small_due number (omega arith)) (All-nil IsSmallDue);
      few = omega (arith, few_adjustments number loan (before ∷ []) (later ∷ []), g.held);
    }

given_dues : (p : DuePart) (s : Reporting) (cents : List ℕ) (number loan l : ℕ) → AreGiven s cents number → number ≤ 9_000 → loan < 3_000 → l < 3_000 → total p l 24_287 (after s (Change number loan (worked_due (get_or cents loan 0) ∷ []) (worked_due number ∷ []))) ≡ pos (get_or (set cents loan number) l 0)
given_dues p s cents number loan l g most in' low =
    let before : List MonthDue = worked_due (get_or cents loan 0) ∷ [] in
    let later : List MonthDue = worked_due number ∷ [] in
    let may : MayChange s number loan before later = may_give s cents number loan g most in' in
    let adds = change_adds_up p l 24_287 s number loan before later (AreBefore-from_all s loan before later may.same_months may.so_far) (Rises-from_pairs later may.rising) in
    adds
    ∙ elim (loan == l) as (λ t. (loan == l) ≡ t → (if t then part_of_due p (worked_due number) else total p l 24_287 s) ≡ pos (get_or (set cents loan number) l 0)) [
      | true ↦ λ e.
          let own : loan ≡ l = grind (arith, nat_tests) in
          let below : loan < length cents = omega (arith, g.size) in
          part_of_worked p number ∙ ap pos (sym (get_or-set_same cents loan number 0 below) ∙ ap (λ k. get_or (set cents loan number) k 0) own)
      | false ↦ λ e.
          let apart : l ≢ loan = λ same. absurd (grind (arith, nat_tests)) in
          g.dues p l low ∙ ap pos (sym (get_or-set_other cents loan l number 0 apart))
    ] refl

given_small : (s : Reporting) (cents : List ℕ) (number loan k : ℕ) → AreGiven s cents number → loan < 3_000 → k < 3_000 → get_or (set cents loan number) k 0 < number + 1
given_small s cents number loan k g in' low =
    let was : get_or cents k 0 < number = g.small k low in
    elim (loan == k) as (λ t. (loan == k) ≡ t → get_or (set cents loan number) k 0 < number + 1) [
      | true ↦ λ e.
          let own : loan ≡ k = grind (arith, nat_tests) in
          let below : loan < length cents = omega (arith, g.size) in
          let is : get_or (set cents loan number) k 0 ≡ number = ap (λ n. get_or (set cents loan number) n 0) (sym own) ∙ get_or-set_same cents loan number 0 below in
          omega arith
      | false ↦ λ e.
          let apart : k ≢ loan = λ same. absurd (grind (arith, nat_tests)) in
          let is : get_or (set cents loan number) k 0 ≡ get_or cents k 0 = get_or-set_other cents loan k number 0 apart in
          omega arith
    ] refl

pub given_more : (s : Reporting) (cents : List ℕ) (number loan : ℕ) → AreGiven s cents number → number ≤ 9_000 → loan < 3_000 → AreGiven (after s (Change number loan (worked_due (get_or cents loan 0) ∷ []) (worked_due number ∷ []))) (set cents loan number) (number + 1)
given_more s cents number loan g most in' =
    let before : List MonthDue = worked_due (get_or cents loan 0) ∷ [] in
    let later : List MonthDue = worked_due number ∷ [] in
    let one : List Adjustment = adjustments_of number loan before later in
    let few : length one ≤ 1 = few_adjustments number loan before later in
    let count : length (s.pending ++ one) ≡ length s.pending + length one = length-append s.pending one in
    record {
      size = length-set cents loan number ∙ g.size;
      closed = g.closed;
      last = g.last;
      dues = λ p l low. given_dues p s cents number loan l g most in' low;
      small = λ k low. given_small s cents number loan k g in' low;
      held = omega (arith, few, count, g.held);
      owned = All-append (λ (a : Adjustment). a.loan < 3_000) s.pending one g.owned
          (All-weaker (λ (a : Adjustment). a.loan ≡ loan) (λ (a : Adjustment). a.loan < 3_000) (λ a e. omega arith) one (adjustments_loan number loan before later));
    }
