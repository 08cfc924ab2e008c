-- What holds of all reports and adjustments, after each call.
use Rattle.std.proofs.Common.{◌≡◌, ℕ, zero, suc, ◌+◌, ◌<◌, ◌≤◌, true, false, List, [], ◌++◌, ◌∷◌, length, take, get_or, ℤ, pos, ◌+ℤ◌, ◌-ℤ◌, Option, Some, None, IfSome, refl, arith, ap, sym, ◌∙◌, subst}
use Rattle.std.specs.Prelude.{◌==◌, if◌then◌else◌, FitsSigned}
use Rattle.std.specs.Int.{w64}
use Rattle.std.specs.List.{All, AllPairs}
use Rattle.std.proofs.lemmas.Int.{ints}
use Rattle.std.proofs.lemmas.Bool.Decides.{nat_tests}
use Rattle.std.proofs.lemmas.List.{take_all}
use Rattle.std.proofs.lemmas.List.Elements.{All-head, All-tail, All-nil, All-cons, All-append, All-push, All-take, All-weaker}
use Rattle.svc_base.specs.Sums.{total_by}
use Rattle.remit_types.specs.declared.dues.MonthDue.{MonthDue}
use Rattle.period_adjust.specs.declared.adjustment.Adjustment.{Adjustment}
use Rattle.period_adjust.specs.declared.report_line.ReportLine.{ReportLine}
use Rattle.period_adjust.specs.Sealed.{Sealed, Reporting, reporting}
use Rattle.period_adjust.specs.Sums.{DuePart, Interest, Principal, share, report_of}
use Rattle.period_adjust.specs.Pending.{SumsFit}
use Rattle.period_adjust.specs.Changes.{is_unchanged, adjustment, change_of, adjustments_of}
use Rattle.period_adjust.specs.Totals.{adjusted, lined, reported, total, Call, Change, Close, after, after_all, given, given_last, part_of_due, part_of_line}
use Rattle.period_adjust.specs.Conditions.{IsAmount, IsSmallDue, IsSmallLine, IsClosed, MayChange, MayClose, MayCall, MayCallAll, IsExpected, last_month}
use Rattle.period_adjust.specs.Kept.{month_after, IsBefore, AreSealedTo, AreSealed}
use Rattle.svc_base.proofs.SumLemmas.{total_by-zero}
use Rattle.period_adjust.proofs.AmountLemmas.{amount_same, amounts-cons, amounts-append}
use Rattle.svc_types.proofs.OrderLemmas.{pairs_head, pairs_tail}
use Rattle.period_adjust.proofs.BeforeLemmas.{AreBefore, by_month, by_loan, Rises-from_pairs, AreBefore-from_all}
use Rattle.period_adjust.proofs.AddsUp.{change_adds_up, close_adds_up, before_is}
use Rattle.period_adjust.proofs.MonthsLemmas.{adjusted_other, months_total, months_total-all, months_total-bound, IsDifference, IsWithinMonths, IsWithinMonths-fits}
use Rattle.period_adjust.proofs.KeptLemmas.{last_month-push, consecutive-push}

-- Nothing is there for a month after the last closed one.

adjusted_before : (p : DuePart) (loan end month : ℕ) (a : Adjustment) → end ≤ month → IsBefore end a.month → adjusted p loan month a ≡ pos 0
adjusted_before p loan end month a h b =
    let high : a.month < end = b.high in
    let apart : (a.month == month) ≡ false = grind (arith, nat_tests) in
    adjusted_other p loan month a apart

pub adjusted_total_before : (p : DuePart) (loan end month : ℕ) (xs : List Adjustment) → end ≤ month → All (λ a. IsBefore end a.month) xs → total_by (adjusted p loan month) xs ≡ pos 0
adjusted_total_before p loan end month xs h all =
    total_by-zero (adjusted p loan month) xs (All-weaker (λ (a : Adjustment). IsBefore end a.month) (λ a. adjusted p loan month a ≡ pos 0) (λ a. adjusted_before p loan end month a h) xs all)

reported_before : (p : DuePart) (loan end month : ℕ) (r : Sealed) → end ≤ month → IsBefore end r.month → All (λ a. IsBefore end a.month) r.adjustments → reported p loan month r ≡ pos 0
reported_before p loan end month r h b all =
    let high : r.month < end = b.high in
    let apart : (r.month == month) ≡ false = grind (arith, nat_tests) in
    let none : total_by (adjusted p loan month) r.adjustments ≡ pos 0 = adjusted_total_before p loan end month r.adjustments h all in
    rw apart (omega (arith, ints))

pub total_before : (p : DuePart) (loan end month : ℕ) (s : Reporting) → end ≤ month → AreSealedTo s end → total p loan month s ≡ pos 0
total_before p loan end month s h k =
    let reports : total_by (reported p loan month) s.reports ≡ pos 0 =
    total_by-zero (reported p loan month) s.reports (λ i d l. reported_before p loan end month (get_or s.reports i d) h (k.reports i d l) (k.sent i d l)) in
    let none : total_by (adjusted p loan month) s.pending ≡ pos 0 = adjusted_total_before p loan end month s.pending h k.pending in
    omega (arith, ints)

-- The sums of a loan's pending adjustments are numbers of 64 bits.

pending_difference : (p : DuePart) (loan end : ℕ) (s : Reporting) (k month : ℕ) → AreSealedTo s end → IsDifference (total_by (adjusted p loan month) (take k s.pending))
pending_difference p loan end s k month h =
    let now : IsAmount (total_by (reported p loan month) s.reports +ℤ total_by (adjusted p loan month) (take k s.pending)) = h.within k p loan month in
    let was : IsAmount (total_by (reported p loan month) s.reports +ℤ pos 0) = h.within 0 p loan month in
    record { low = omega (arith, ints); high = omega (arith, ints) }

pub sums_fit : (s : Reporting) (end : ℕ) → AreSealedTo s end → SumsFit s.pending
sums_fit s end h = λ k p loan.
    let before : All (λ (a : Adjustment). IsBefore end a.month) (take k s.pending) = All-take (λ (a : Adjustment). IsBefore end a.month) k s.pending h.pending in
    let most : end ≤ 25_680 = h.most in
    let all : months_total p loan (take k s.pending) 1_812 ≡ total_by (share p loan) (take k s.pending) = months_total-all p loan end 1_812 (take k s.pending) most before in
    let bound : IsWithinMonths 1_812 (months_total p loan (take k s.pending) 1_812) = months_total-bound p loan 1_812 (take k s.pending) (λ month. pending_difference p loan end s k month h) in
    subst (λ (z : ℤ). FitsSigned w64 z) all (IsWithinMonths-fits _ bound)

-- A change of dues.

pub adjustments_all : (P : ℕ → Type 0) (number l : ℕ) (bs later : List MonthDue) → All (λ d. P d.month) later → All (λ a. P a.month) (adjustments_of number l bs later)
adjustments_all P number l [] later h = All-nil (λ (a : Adjustment). P a.month)
adjustments_all P number l (b ∷ bs) [] h = All-nil (λ (a : Adjustment). P a.month)
adjustments_all P number l (b ∷ bs) (a ∷ later) h =
    let here : P a.month = All-head (λ (d : MonthDue). P d.month) a later h in
    let rest : All (λ (x : Adjustment). P x.month) (adjustments_of number l bs later) = adjustments_all P number l bs later (All-tail (λ (d : MonthDue). P d.month) a later h) in
    let one : All (λ (x : Adjustment). P x.month) (change_of number l b a) =
    elim (is_unchanged b a) as (λ u. All (λ (x : Adjustment). P x.month) (if u then [] else adjustment number l b a ∷ [])) [
      | true ↦ All-nil (λ (x : Adjustment). P x.month)
      | false ↦ All-cons (λ (x : Adjustment). P x.month) (adjustment number l b a) [] here (All-nil (λ (x : Adjustment). P x.month))
    ] in
    All-append (λ (x : Adjustment). P x.month) (change_of number l b a) (adjustments_of number l bs later) one rest

pub adjustments_loan : (number l : ℕ) (bs later : List MonthDue) → All (λ a. a.loan ≡ l) (adjustments_of number l bs later)
adjustments_loan number l [] later = All-nil (λ (a : Adjustment). a.loan ≡ l)
adjustments_loan number l (b ∷ bs) [] = All-nil (λ (a : Adjustment). a.loan ≡ l)
adjustments_loan number l (b ∷ bs) (a ∷ later) =
    let rest : All (λ (x : Adjustment). x.loan ≡ l) (adjustments_of number l bs later) = adjustments_loan number l bs later in
    let one : All (λ (x : Adjustment). x.loan ≡ l) (change_of number l b a) =
    elim (is_unchanged b a) as (λ u. All (λ (x : Adjustment). x.loan ≡ l) (if u then [] else adjustment number l b a ∷ [])) [
      | true ↦ All-nil (λ (x : Adjustment). x.loan ≡ l)
      | false ↦ All-cons (λ (x : Adjustment). x.loan ≡ l) (adjustment number l b a) [] refl (All-nil (λ (x : Adjustment). x.loan ≡ l))
    ] in
    All-append (λ (x : Adjustment). x.loan ≡ l) (change_of number l b a) (adjustments_of number l bs later) one rest

-- adjustments of later months add nothing
later_take : (p : DuePart) (loan month k : ℕ) (xs : List Adjustment) → All (λ a. month < a.month) xs → total_by (adjusted p loan month) (take k xs) ≡ pos 0
later_take p loan month k xs h =
    total_by-zero (adjusted p loan month) (take k xs) (All-weaker (λ (a : Adjustment). month < a.month) (λ a. adjusted p loan month a ≡ pos 0)
    (λ a g. let apart : (a.month == month) ≡ false = grind (arith, nat_tests) in adjusted_other p loan month a apart)
    (take k xs) (All-take (λ (a : Adjustment). month < a.month) k xs h))

-- nor do those of another loan
other_take : (p : DuePart) (loan month l k : ℕ) (xs : List Adjustment) → (l == loan) ≡ false → All (λ a. a.loan ≡ l) xs → total_by (adjusted p loan month) (take k xs) ≡ pos 0
other_take p loan month l k xs h all =
    total_by-zero (adjusted p loan month) (take k xs) (All-weaker (λ (a : Adjustment). a.loan ≡ l) (λ a. adjusted p loan month a ≡ pos 0)
    (λ a g. let apart : (a.loan == loan) ≡ false = ap (λ x. x == loan) g ∙ h in rw apart refl)
    (take k xs) (All-take (λ (a : Adjustment). a.loan ≡ l) k xs all))

small_part : (p : DuePart) (d : MonthDue) → IsSmallDue d → IsAmount (part_of_due p d)
small_part Interest d h = h.interest
small_part Principal d h = h.principal

adjusted_part : (p : DuePart) (loan month number : ℕ) (b a : MonthDue) → (a.month == month) ≡ true → adjusted p loan month (adjustment number loan b a) ≡ part_of_due p a -ℤ part_of_due p b
adjusted_part Interest loan month number b a h =
    let own : (loan == loan) ≡ true = grind (arith, nat_tests) in
    rw (own, h) refl
adjusted_part Principal loan month number b a h =
    let own : (loan == loan) ≡ true = grind (arith, nat_tests) in
    rw (own, h) refl

-- with the first so many adjustments of a change a month is worth its due before or after it
own_take : (p : DuePart) (loan month number : ℕ) (s : Reporting) (bs later : List MonthDue) (k : ℕ) → AreBefore s loan bs later → AllPairs by_month later → All IsSmallDue later → IsAmount (total p loan month s) → IsAmount (total p loan month s +ℤ total_by (adjusted p loan month) (take k (adjustments_of number loan bs later)))
own_take p loan month number s [] [] zero told up small was = amount_same (total p loan month s +ℤ pos 0) (total p loan month s) (omega (arith, ints)) was
own_take p loan month number s [] [] (suc k) told up small was = amount_same (total p loan month s +ℤ pos 0) (total p loan month s) (omega (arith, ints)) was
own_take p loan month number s [] (a ∷ later) k told up small was = absurd told
own_take p loan month number s (b ∷ bs) [] k told up small was = absurd told
own_take p loan month number s (b ∷ bs) (a ∷ later) k told up small was =
    let rest : (j : ℕ) → IsAmount (total p loan month s +ℤ total_by (adjusted p loan month) (take j (adjustments_of number loan bs later))) =
    λ j. own_take p loan month number s bs later j told.3 (pairs_tail by_month a later up) (All-tail IsSmallDue a later small) was in
    let above : All (λ (x : Adjustment). a.month < x.month) (adjustments_of number loan bs later) =
    adjustments_all (λ m. a.month < m) number loan bs later (pairs_head by_month a later up) in
    elim (is_unchanged b a) as (λ u. IsAmount (total p loan month s +ℤ total_by (adjusted p loan month) (take k ((if u then [] else adjustment number loan b a ∷ []) ++ adjustments_of number loan bs later)))) [
      | true ↦ rest k
      | false ↦ amounts-cons (adjusted p loan month) (total p loan month s) (adjustment number loan b a) (adjustments_of number loan bs later) was
          (λ j. elim (a.month == month) as (λ t. (a.month == month) ≡ t → IsAmount ((total p loan month s +ℤ adjusted p loan month (adjustment number loan b a)) +ℤ total_by (adjusted p loan month) (take j (adjustments_of number loan bs later)))) [
            | true ↦ λ e.
                let here : a.month ≡ month = grind (arith, nat_tests) in
                let old : part_of_due p b ≡ total p loan month s = before_is p loan month s b (told.0 ∙ here) told.1 told.2 in
                let above' : All (λ (x : Adjustment). month < x.month) (adjustments_of number loan bs later) =
                subst (λ (m : ℕ). All (λ (x : Adjustment). m < x.month) (adjustments_of number loan bs later)) here above in
                let none = later_take p loan month j (adjustments_of number loan bs later) above' in
                let adds = adjusted_part p loan month number b a e in
                amount_same _ (part_of_due p a) (omega (arith, ints)) (small_part p a (All-head IsSmallDue a later small))
            | false ↦ λ e.
                let none = adjusted_other p loan month (adjustment number loan b a) e in
                amount_same _ (total p loan month s +ℤ total_by (adjusted p loan month) (take j (adjustments_of number loan bs later))) (omega (arith, ints)) (rest j)
          ] refl)
          k
    ]

change_take : (p : DuePart) (loan month number l : ℕ) (s : Reporting) (bs later : List MonthDue) (k : ℕ) → AreBefore s l bs later → AllPairs by_month later → All IsSmallDue later → IsAmount (total p loan month s) → IsAmount (total p loan month s +ℤ total_by (adjusted p loan month) (take k (adjustments_of number l bs later)))
change_take p loan month number l s bs later k told up small was =
    elim (l == loan) as (λ t. (l == loan) ≡ t → IsAmount (total p loan month s +ℤ total_by (adjusted p loan month) (take k (adjustments_of number l bs later)))) [
      | true ↦ λ e.
          let own : l ≡ loan = grind (arith, nat_tests) in
          let told' : AreBefore s loan bs later = subst (λ (x : ℕ). AreBefore s x bs later) own told in
          subst (λ (x : ℕ). IsAmount (total p loan month s +ℤ total_by (adjusted p loan month) (take k (adjustments_of number x bs later)))) (sym own)
          (own_take p loan month number s bs later k told' up small was)
      | false ↦ λ e.
          let none = other_take p loan month l k (adjustments_of number l bs later) e (adjustments_loan number l bs later) in
          amount_same _ (total p loan month s) (omega (arith, ints)) was
    ] refl

pub closed_before : (end month : ℕ) (rs : List Sealed) → All (λ r. IsBefore end r.month) rs → IsClosed rs month → IsBefore end month
closed_before end month rs all c =
    let at : IsBefore end (get_or rs c.0 c.1).month = all c.0 c.1 c.2 in
    let is : (get_or rs c.0 c.1).month ≡ month = ap (λ (r : Sealed). r.month) c.3 ∙ c.4 in
    subst (IsBefore end) is at

-- no month after the last closed one is closed
pub closed_to_last : (s : Reporting) (last month : ℕ) → AreSealed s → last_month s.reports ≡ Some last → IsClosed s.reports month → month ≤ last
closed_to_last s last month h e c =
    let before : IsBefore (month_after (last_month s.reports)) month = closed_before (month_after (last_month s.reports)) month s.reports h.reports c in
    let high : month < month_after (last_month s.reports) = before.high in
    let end : month_after (last_month s.reports) ≡ last + 1 = ap month_after e in
    omega arith

pub sealed_change : (s : Reporting) (number l : ℕ) (before later : List MonthDue) → AreSealed s → MayChange s number l before later → AreSealed (after s (Change number l before later))
sealed_change s number l before later h may =
    let end : ℕ = month_after (last_month s.reports) in
    let told : AreBefore s l before later = AreBefore-from_all s l before later may.same_months may.so_far in
    let months : All (λ (d : MonthDue). IsBefore end d.month) later = λ k d g. closed_before end (get_or later k d).month s.reports h.reports (may.closed k d g) in
    record {
      consecutive = h.consecutive;
      most = h.most;
      reports = h.reports;
      sent = h.sent;
      pending = All-append (λ (a : Adjustment). IsBefore end a.month) s.pending (adjustments_of number l before later) h.pending (adjustments_all (IsBefore end) number l before later months);
      within = λ k p loan month.
          let whole : IsAmount (total p loan month s) =
          subst (λ (xs : List Adjustment). IsAmount (total p loan month (reporting s.reports xs))) (take_all (length s.pending) s.pending (omega arith)) (h.within (length s.pending) p loan month) in
          amounts-append (adjusted p loan month) (total_by (reported p loan month) s.reports) s.pending (adjustments_of number l before later)
          (λ j. h.within j p loan month)
          (λ j. change_take p loan month number l s before later j told may.rising may.later_small whole)
          k;
    }

-- A closing.

pub month_after-next : (o : Option ℕ) (m : ℕ) → IfSome o (λ last. m ≡ last + 1) → month_after o ≤ m
month_after-next None m h = omega arith
month_after-next (Some last) m h = omega arith

small_line : (p : DuePart) (l : ReportLine) → IsSmallLine l → IsAmount (part_of_line p l)
small_line Interest l h = h.interest
small_line Principal l h = h.principal

lined_above : (p : DuePart) (loan : ℕ) (ls : List ReportLine) → All (λ l. loan < l.loan) ls → total_by (lined p loan) ls ≡ pos 0
lined_above p loan ls h =
    total_by-zero (lined p loan) ls (All-weaker (λ (l : ReportLine). loan < l.loan) (λ l. lined p loan l ≡ pos 0)
    (λ l g. let apart : (l.loan == loan) ≡ false = grind (arith, nat_tests) in rw apart refl) ls h)

-- a loan has one line at most
pub lined_small : (p : DuePart) (loan : ℕ) (ls : List ReportLine) → AllPairs by_loan ls → All IsSmallLine ls → IsAmount (total_by (lined p loan) ls)
lined_small p loan [] up small = record { low = omega (arith, ints); high = omega (arith, ints) }
lined_small p loan (l ∷ ls) up small =
    elim (l.loan == loan) as (λ t. (l.loan == loan) ≡ t → IsAmount ((if t then part_of_line p l else pos 0) +ℤ total_by (lined p loan) ls)) [
      | true ↦ λ e.
          let here : l.loan ≡ loan = grind (arith, nat_tests) in
          let above : All (λ (x : ReportLine). loan < x.loan) ls = subst (λ (n : ℕ). All (λ (x : ReportLine). n < x.loan) ls) here (pairs_head by_loan l ls up) in
          let none = lined_above p loan ls above in
          amount_same _ (part_of_line p l) (omega (arith, ints)) (small_line p l (All-head IsSmallLine l ls small))
      | false ↦ λ e. amount_same _ (total_by (lined p loan) ls) (omega (arith, ints)) (lined_small p loan ls (pairs_tail by_loan l ls up) (All-tail IsSmallLine l ls small))
    ] refl

nil_take : (k : ℕ) → take {A = Adjustment} k [] ≡ []
nil_take zero = refl
nil_take (suc k) = refl

later_end : (end m month : ℕ) → end ≤ m → IsBefore end month → IsBefore (m + 1) month
later_end end m month h b = record { low = b.low; high = omega (arith, b.high) }

pub total_next : (p : DuePart) (loan : ℕ) (s : Reporting) (m : ℕ) → AreSealed s → IsExpected s.reports m → total p loan m s ≡ pos 0
total_next p loan s m h e = total_before p loan (month_after (last_month s.reports)) m s (month_after-next (last_month s.reports) m e.next) h

close_within : (p : DuePart) (loan month : ℕ) (s : Reporting) (m : ℕ) (dues : List ReportLine) → AreSealed s → MayClose s m dues → IsAmount (total p loan month (after s (Close m dues)))
close_within p loan month s m dues h may =
    let empty : total p loan m s ≡ pos 0 = total_next p loan s m h may.expected in
    let whole : IsAmount (total p loan month s) =
    subst (λ (xs : List Adjustment). IsAmount (total p loan month (reporting s.reports xs))) (take_all (length s.pending) s.pending (omega arith)) (h.within (length s.pending) p loan month) in
    let lines : IsAmount (total_by (lined p loan) dues) = lined_small p loan dues may.lines.rising may.lines.small in
    let both : IsAmount (given p loan month (total p loan month s) (Close m dues)) =
    elim (m == month) as (λ t. IsAmount (if t then total_by (lined p loan) dues else total p loan month s)) [ true ↦ lines | false ↦ whole ] in
    amount_same _ _ (close_adds_up p loan month s m dues empty) both

pub sealed_close : (s : Reporting) (m : ℕ) (dues : List ReportLine) → AreSealed s → MayClose s m dues → AreSealed (after s (Close m dues))
sealed_close s m dues h may =
    let end : ℕ = month_after (last_month s.reports) in
    let new : Reporting = after s (Close m dues) in
    let next : end ≤ m = month_after-next (last_month s.reports) m may.expected.next in
    let low : 23_868 ≤ m = may.calendar.begin in
    let high : m ≤ 25_679 = may.expected.high in
    let report : Sealed = report_of m dues s.pending in
    let here : IsBefore (m + 1) m = record { low = low; high = omega arith } in
    let pending : All (λ (a : Adjustment). IsBefore (m + 1) a.month) s.pending =
    All-weaker (λ (a : Adjustment). IsBefore end a.month) (λ (a : Adjustment). IsBefore (m + 1) a.month) (λ a. later_end end m a.month next) s.pending h.pending in
    let sealed : AreSealedTo new (m + 1) = record {
      consecutive = consecutive-push s.reports report h.consecutive may.expected.next;
      most = omega arith;
      reports = All-push (λ (r : Sealed). IsBefore (m + 1) r.month) s.reports report
          (All-weaker (λ (r : Sealed). IsBefore end r.month) (λ (r : Sealed). IsBefore (m + 1) r.month) (λ r. later_end end m r.month next) s.reports h.reports) here;
      sent = All-push (λ (r : Sealed). All (λ (a : Adjustment). IsBefore (m + 1) a.month) r.adjustments) s.reports report
          (λ k d g. All-weaker (λ (a : Adjustment). IsBefore end a.month) (λ (a : Adjustment). IsBefore (m + 1) a.month) (λ a. later_end end m a.month next) (get_or s.reports k d).adjustments (h.sent k d g)) pending;
      pending = All-nil (λ (a : Adjustment). IsBefore (m + 1) a.month);
      within = λ k p loan month.
          subst (λ (xs : List Adjustment). IsAmount (total p loan month (reporting new.reports xs))) (sym (nil_take k)) (close_within p loan month s m dues h may);
    } in
    subst (AreSealedTo new) (sym (ap month_after (last_month-push s.reports report))) sealed

-- All calls.

pub sealed_start : AreSealed (reporting [] [])
sealed_start = record {
  consecutive = tt;
  most = omega arith;
  reports = All-nil (λ (r : Sealed). IsBefore 0 r.month);
  sent = All-nil (λ (r : Sealed). All (λ (a : Adjustment). IsBefore 0 a.month) r.adjustments);
  pending = All-nil (λ (a : Adjustment). IsBefore 0 a.month);
  within = λ k p loan month. subst (λ (xs : List Adjustment). IsAmount (total p loan month (reporting [] xs))) (sym (nil_take k)) (record { low = omega (arith, ints); high = omega (arith, ints) });
}

pub sealed_call : (s : Reporting) (c : Call) → AreSealed s → MayCall s c → AreSealed (after s c)
sealed_call s (Change number l before later) h may = sealed_change s number l before later h may
sealed_call s (Close m dues) h may = sealed_close s m dues h may

-- from any sealed reports and adjustments on a call adds up
pub call_adds_up : (p : DuePart) (loan month : ℕ) (s : Reporting) (c : Call) → AreSealed s → MayCall s c → total p loan month (after s c) ≡ given p loan month (total p loan month s) c
call_adds_up p loan month s (Change number l before later) h may =
    change_adds_up p loan month s number l before later (AreBefore-from_all s l before later may.same_months may.so_far) (Rises-from_pairs later may.rising)
call_adds_up p loan month s (Close m dues) h may =
    close_adds_up p loan month s m dues (total_next p loan s m h may.expected)

pub calls_add_up : (p : DuePart) (loan month : ℕ) (s : Reporting) (cs : List Call) → AreSealed s → MayCallAll s cs → total p loan month (after_all s cs) ≡ given_last p loan month (total p loan month s) cs
calls_add_up p loan month s [] h may = refl
calls_add_up p loan month s (c ∷ cs) h may =
    calls_add_up p loan month (after s c) cs (sealed_call s c h may.0) may.1
    ∙ ap (λ t. given_last p loan month t cs) (call_adds_up p loan month s c h may.0)
