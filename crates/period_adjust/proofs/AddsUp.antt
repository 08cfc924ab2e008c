-- Reports and adjustments add up to the dues that were given last.
use Rattle.std.proofs.Common.{◌≡◌, ℕ, ◌≤◌, true, false, List, [], ◌∷◌, ◌++◌, ℤ, pos, ◌+ℤ◌, ◌-ℤ◌, refl, arith, ◌∙◌, ap, sym, subst, map, append-nil, append_assoc}
use Rattle.std.specs.Prelude.{if◌then◌else◌, ◌==◌}
use Rattle.std.proofs.lemmas.Int.{ints}
use Rattle.std.proofs.lemmas.Bool.Decides.{nat_tests}
use Rattle.svc_base.specs.Sums.{total_by}
use Rattle.remit_types.specs.declared.dues.MonthDue.{MonthDue}
use Rattle.period_adjust.specs.declared.adjustment.Adjustment.{Adjustment}
use Rattle.period_adjust.specs.declared.report_line.ReportLine.{ReportLine}
use Rattle.period_adjust.specs.Sealed.{Sealed, Reporting}
use Rattle.period_adjust.specs.Sums.{DuePart, Interest, Principal, line_with, report_of}
use Rattle.period_adjust.specs.Changes.{is_unchanged, adjustment, change_of, adjustments_of}
use Rattle.svc_base.proofs.SumLemmas.{total_by-append}
use Rattle.period_adjust.specs.Totals.{adjusted, lined, reported, Call, Change, Close, total, after, after_all, due_in, given, part_of_due}
use Rattle.period_adjust.proofs.BeforeLemmas.{IsRising, AreBefore, Rises}

-- the sums of adjustments change nothing in what a line reports
lined-with : (p : DuePart) (loan : ℕ) (pending : List Adjustment) (l : ReportLine) → lined p loan (line_with pending l) ≡ lined p loan l
lined-with Interest loan pending l = refl
lined-with Principal loan pending l = refl

pub lined-report : (p : DuePart) (loan : ℕ) (pending : List Adjustment) (ls : List ReportLine) → total_by (lined p loan) (map (line_with pending) ls) ≡ total_by (lined p loan) ls
lined-report p loan pending [] = refl
lined-report p loan pending (l ∷ ls) = omega (arith, ints, lined-with p loan pending l, lined-report p loan pending ls)

-- a month that is below all of the list: the list gives nothing for it
pub due_in-above : (p : DuePart) (month low : ℕ) (was : ℤ) (ds : List MonthDue) → month ≤ low → IsRising low ds → due_in p month was ds ≡ was
due_in-above p month low was [] h r = refl
due_in-above p month low was (d ∷ ds) h r =
    let apart : (d.month == month) ≡ false = grind (arith, nat_tests) in
    let later : month ≤ d.month = omega arith in
    rw apart (due_in-above p month d.month was ds later r.1)

pub rises-tail : (low : ℕ) (ds : List MonthDue) → IsRising low ds → Rises ds
rises-tail low [] r = tt
rises-tail low (d ∷ ds) r = r.1

-- what one month's change adds, for its own loan
change_adds : (p : DuePart) (loan month number : ℕ) (b a : MonthDue) → total_by (adjusted p loan month) (change_of number loan b a) ≡ (if a.month == month then part_of_due p a -ℤ part_of_due p b else pos 0)
change_adds Interest loan month number b a = grind (arith, ints, nat_tests)
change_adds Principal loan month number b a = grind (arith, ints, nat_tests)

one_change : (p : DuePart) (loan month number : ℕ) (b a : MonthDue) (bs later : List MonthDue) → total_by (adjusted p loan month) (adjustments_of number loan (b ∷ bs) (a ∷ later)) ≡ (if a.month == month then part_of_due p a -ℤ part_of_due p b else pos 0) +ℤ total_by (adjusted p loan month) (adjustments_of number loan bs later)
one_change p loan month number b a bs later =
    total_by-append (adjusted p loan month) (change_of number loan b a) (adjustments_of number loan bs later)
    ∙ ap (λ (z : ℤ). z +ℤ total_by (adjusted p loan month) (adjustments_of number loan bs later)) (change_adds p loan month number b a)

-- changes of another loan add nothing
other_loan : (p : DuePart) (loan month number l : ℕ) (bs later : List MonthDue) → (l == loan) ≡ false → total_by (adjusted p loan month) (adjustments_of number l bs later) ≡ pos 0
other_loan p loan month number l [] later h = refl
other_loan p loan month number l (b ∷ bs) [] h = refl
other_loan p loan month number l (b ∷ bs) (a ∷ later) h =
    let rest = other_loan p loan month number l bs later h in
    let here : total_by (adjusted p loan month) (change_of number l b a) ≡ pos 0 =
    elim (is_unchanged b a) as (λ u. total_by (adjusted p loan month) (if u then [] else adjustment number l b a ∷ []) ≡ pos 0) [ true ↦ refl | false ↦ rw h refl ] in
    omega (arith, ints, total_by-append (adjusted p loan month) (change_of number l b a) (adjustments_of number l bs later))

-- changes of later months add nothing
later_months : (p : DuePart) (loan month number low : ℕ) (bs later : List MonthDue) → month ≤ low → IsRising low later → total_by (adjusted p loan month) (adjustments_of number loan bs later) ≡ pos 0
later_months p loan month number low [] later h r = refl
later_months p loan month number low (b ∷ bs) [] h r = refl
later_months p loan month number low (b ∷ bs) (a ∷ later) h r =
    let apart : (a.month == month) ≡ false = grind (arith, nat_tests) in
    let above : month ≤ a.month = omega arith in
    let rest = later_months p loan month number a.month bs later above r.1 in
    one_change p loan month number b a bs later ∙ rw apart (omega (arith, ints))

-- what reports and adjustments say of a month before it changes
pub before_is : (p : DuePart) (loan month : ℕ) (s : Reporting) (b : MonthDue) → b.month ≡ month → b.interest ≡ total Interest loan b.month s → b.principal ≡ total Principal loan b.month s → part_of_due p b ≡ total p loan month s
before_is Interest loan month s b e i q = i ∙ ap (λ m. total Interest loan m s) e
before_is Principal loan month s b e i q = q ∙ ap (λ m. total Principal loan m s) e

-- the changes of a loan bring what is said of a month to what is given for it
pub changes_add_up : (p : DuePart) (loan month number : ℕ) (s : Reporting) (bs later : List MonthDue) → AreBefore s loan bs later → Rises later → total p loan month s +ℤ total_by (adjusted p loan month) (adjustments_of number loan bs later) ≡ due_in p month (total p loan month s) later
changes_add_up p loan month number s [] [] h r = omega (arith, ints)
changes_add_up p loan month number s [] (a ∷ later) h r = absurd h
changes_add_up p loan month number s (b ∷ bs) [] h r = absurd h
changes_add_up p loan month number s (b ∷ bs) (a ∷ later) h r =
    let one = one_change p loan month number b a bs later in
    elim (a.month == month) as (λ t. (a.month == month) ≡ t → total p loan month s +ℤ total_by (adjusted p loan month) (adjustments_of number loan (b ∷ bs) (a ∷ later)) ≡ due_in p month (if t then part_of_due p a else total p loan month s) later) [
      | true ↦ λ e.
          let here : a.month ≡ month = grind (arith, nat_tests) in
          let was : part_of_due p b ≡ total p loan month s = before_is p loan month s b (h.0 ∙ here) h.1 h.2 in
          let low : month ≤ a.month = omega arith in
          let none : total_by (adjusted p loan month) (adjustments_of number loan bs later) ≡ pos 0 = later_months p loan month number a.month bs later low r in
          let gives : due_in p month (part_of_due p a) later ≡ part_of_due p a = due_in-above p month a.month (part_of_due p a) later low r in
          let adds : total_by (adjusted p loan month) (adjustments_of number loan (b ∷ bs) (a ∷ later)) ≡ (part_of_due p a -ℤ part_of_due p b) +ℤ total_by (adjusted p loan month) (adjustments_of number loan bs later) = (rw e at one) in
          omega (arith, ints)
      | false ↦ λ e.
          let rest = changes_add_up p loan month number s bs later h.3 (rises-tail a.month later r) in
          let adds : total_by (adjusted p loan month) (adjustments_of number loan (b ∷ bs) (a ∷ later)) ≡ pos 0 +ℤ total_by (adjusted p loan month) (adjustments_of number loan bs later) = (rw e at one) in
          omega (arith, ints)
    ] refl

-- a change brings what is said of a month to what it gives for it
pub change_adds_up : (p : DuePart) (loan month : ℕ) (s : Reporting) (number l : ℕ) (before later : List MonthDue) → AreBefore s l before later → Rises later → total p loan month (after s (Change number l before later)) ≡ given p loan month (total p loan month s) (Change number l before later)
change_adds_up p loan month s number l before later told rises =
    let appended = total_by-append (adjusted p loan month) s.pending (adjustments_of number l before later) in
    elim (l == loan) as (λ t. (l == loan) ≡ t → total p loan month (after s (Change number l before later)) ≡ (if t then due_in p month (total p loan month s) later else total p loan month s)) [
      | true ↦ λ e.
          let own : l ≡ loan = grind (arith, nat_tests) in
          let told' : AreBefore s loan before later = subst (λ (k : ℕ). AreBefore s k before later) own told in
          let adds = changes_add_up p loan month number s before later told' rises in
          let same_changes : total_by (adjusted p loan month) (adjustments_of number l before later) ≡ total_by (adjusted p loan month) (adjustments_of number loan before later) = ap (λ k. total_by (adjusted p loan month) (adjustments_of number k before later)) own in
          omega (arith, ints)
      | false ↦ λ e.
          let none = other_loan p loan month number l before later e in
          omega (arith, ints)
    ] refl

-- and so does a closing, where nothing is there for its month yet
pub close_adds_up : (p : DuePart) (loan month : ℕ) (s : Reporting) (m : ℕ) (dues : List ReportLine) → total p loan m s ≡ pos 0 → total p loan month (after s (Close m dues)) ≡ given p loan month (total p loan month s) (Close m dues)
close_adds_up p loan month s m dues empty =
    let appended = total_by-append (reported p loan month) s.reports (report_of m dues s.pending ∷ []) in
    let lines = lined-report p loan s.pending dues in
    elim (m == month) as (λ t. (m == month) ≡ t → total p loan month (after s (Close m dues)) ≡ (if t then total_by (lined p loan) dues else total p loan month s)) [
      | true ↦ λ e.
          let here : m ≡ month = grind (arith, nat_tests) in
          let empty' : total p loan month s ≡ pos 0 = subst (λ (k : ℕ). total p loan k s ≡ pos 0) here empty in
          let report : reported p loan month (report_of m dues s.pending) ≡ total_by (lined p loan) (map (line_with s.pending) dues) +ℤ total_by (adjusted p loan month) s.pending = (rw e refl) in
          omega (arith, ints)
      | false ↦ λ e.
          let report : reported p loan month (report_of m dues s.pending) ≡ pos 0 +ℤ total_by (adjusted p loan month) s.pending = (rw e refl) in
          omega (arith, ints)
    ] refl

-- reports only grow
pub reports_grow : (s : Reporting) (cs : List Call) → (more : List Sealed) × ((after_all s cs).reports ≡ s.reports ++ more)
reports_grow s [] = ([], sym (append-nil s.reports))
reports_grow s (Change number l before later ∷ cs) = reports_grow (after s (Change number l before later)) cs
reports_grow s (Close m dues ∷ cs) =
    let rest = reports_grow (after s (Close m dues)) cs in
    (report_of m dues s.pending ∷ rest.0, rest.1 ∙ append_assoc s.reports (report_of m dues s.pending ∷ []) rest.0)
