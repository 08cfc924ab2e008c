-- A month may be closed with the lines of all loans, and reports and adjustments add up after it.
use Rattle.std.proofs.Common.{◌≡◌, ℕ, suc, ◌+◌, ◌-◌, ◌≤◌, ◌<◌, Bool, true, false, cond, List, [], ◌∷◌, map, length, get_or, arith, refl, sym, ap, subst, ◌∙◌}
use Rattle.std.specs.Prelude.{◌&&◌, ◌||◌, ◌==◌, not, nat_le, ℤ, pos, Option, Some, None, IfSome, if◌then◌else◌}
use Rattle.std.specs.List.{All, Any, AllPairs, filter}
use Rattle.std.proofs.lemmas.Int.{ints}
use Rattle.std.proofs.lemmas.Bool.Decides.{nat_tests, Decides-int_eq}
use Rattle.std.proofs.lemmas.List.Elements.{All-cons, All-head, All-tail, All-nil}
use Rattle.std.proofs.lemmas.List.Kept.{AllPairs-cons}
use Rattle.std.proofs.lemmas.List.Folds.{list_any_at}
use Rattle.svc_base.specs.Sums.{total_by}
use Rattle.svc_types.proofs.OrderLemmas.{pairs_head, pairs_tail}
use Rattle.period_adjust.specs.declared.adjustment.Adjustment.{Adjustment}
use Rattle.period_adjust.specs.declared.report_line.ReportLine.{ReportLine}
use Rattle.period_adjust.specs.Sealed.{Reporting}
use Rattle.period_adjust.specs.Sums.{DuePart, Interest, Principal, report_of}
use Rattle.period_adjust.specs.Totals.{total, part_of_due, part_of_line, lined, Close, after}
use Rattle.period_adjust.specs.Conditions.{IsSmallLine, HasNoSums, AreDues, MayClose, last_month}
use Rattle.period_adjust.specs.Kept.{AreSealed, month_after}
use Rattle.period_adjust.proofs.SealedLemmas.{call_adds_up, total_before}
use Rattle.period_adjust.proofs.KeptLemmas.{last_month-push}
use Rattle.svc_world.specs.Held.{Held, find_loan, boarded_month}
use Rattle.svc_world.specs.LoanDues.{carry_of, due_of}
use Rattle.svc_world.specs.Reports.{is_zero, is_adjusted, is_reported, line_of, lines_of, nothing_due}
use Rattle.svc_world.specs.Worlds.{due_by, AddUp, IsOwned}
use Rattle.svc_world.proofs.ChangesLemmas.{IsSameDue, due_before}
use Rattle.svc_world.proofs.LoanListLemmas.{rises, found_id}

-- ---- the lines of all loans

lines_nil : (pending : List Adjustment) (p : ℕ) → lines_of pending p [] ≡ []
unfolding lines_of
lines_nil pending p = refl

lines_cons : (pending : List Adjustment) (p : ℕ) (l : Held) (ls : List Held) → lines_of pending p (l ∷ ls) ≡ cond (is_reported pending p l) (line_of p l ∷ lines_of pending p ls) (lines_of pending p ls)
unfolding lines_of
lines_cons pending p l ls = elim (is_reported pending p l) as (λ v. map (line_of p) (cond v (l ∷ filter (is_reported pending p) ls) (filter (is_reported pending p) ls)) ≡ cond v (line_of p l ∷ map (line_of p) (filter (is_reported pending p) ls)) (map (line_of p) (filter (is_reported pending p) ls))) [ true ↦ refl | false ↦ refl ]

-- what holds of the line of each loan that was boarded by the month
pub lines_all : (P : ReportLine → Type 0) (pending : List Adjustment) (p : ℕ) (ls : List Held) → All (λ l. nat_le (boarded_month l) p ≡ true → P (line_of p l)) ls → All P (lines_of pending p ls)
lines_all P pending p [] h = rw (lines_nil pending p) (All-nil P)
lines_all P pending p (l ∷ ls) h =
    let rest = lines_all P pending p ls (All-tail (λ l. nat_le (boarded_month l) p ≡ true → P (line_of p l)) l ls h) in
    let here = All-head (λ l. nat_le (boarded_month l) p ≡ true → P (line_of p l)) l ls h in
    rw (lines_cons pending p l ls) (elim (is_reported pending p l) as (λ v. is_reported pending p l ≡ v → All P (cond v (line_of p l ∷ lines_of pending p ls) (lines_of pending p ls))) [
      | true ↦ λ e. All-cons P (line_of p l) (lines_of pending p ls) (here (first_test _ _ e)) rest
      | false ↦ λ e. rest
    ] refl)
  where
    first_test : (a b : Bool) → (a && b) ≡ true → a ≡ true
    first_test true b e = refl
    first_test false b e = e

pub lines_rise : (pending : List Adjustment) (p : ℕ) (ls : List Held) → AllPairs rises ls → AllPairs (λ (l m : ReportLine). l.loan < m.loan) (lines_of pending p ls)
lines_rise pending p [] h = rw (lines_nil pending p) (λ i j d lt len. absurd (omega arith))
lines_rise pending p (l ∷ ls) h =
    let R : ReportLine → ReportLine → Type 0 = λ a b. a.loan < b.loan in
    let rest = lines_rise pending p ls (pairs_tail rises l ls h) in
    let above = lines_all (λ (m : ReportLine). l.id < m.loan) pending p ls (λ i d lt t. pairs_head rises l ls h i d lt) in
    rw (lines_cons pending p l ls) (elim (is_reported pending p l) as (λ v. AllPairs R (cond v (line_of p l ∷ lines_of pending p ls) (lines_of pending p ls))) [
      | true ↦ AllPairs-cons R (line_of p l) (lines_of pending p ls) above rest
      | false ↦ rest
    ])

-- a loan that is reported has a line
any_here : (P : ReportLine → Type 0) (x : ReportLine) (xs : List ReportLine) → P x → Any P (x ∷ xs)
any_here P x xs h = (0, x, omega arith, refl, h)

any_later : (P : ReportLine → Type 0) (x : ReportLine) (xs : List ReportLine) → Any P xs → Any P (x ∷ xs)
any_later P x xs h = let lt : h.0 < length xs = h.2 in (suc h.0, h.1, omega arith, h.3, h.4)

pub has_line : (pending : List Adjustment) (p : ℕ) (ls : List Held) (id : ℕ) (k : Held) → find_loan id ls ≡ Some k → is_reported pending p k ≡ true → Any (λ (l : ReportLine). l.loan ≡ id) (lines_of pending p ls)
has_line pending p [] id k e h = absurd (cc)
has_line pending p (l ∷ ls) id k e h =
    let P : ReportLine → Type 0 = λ m. m.loan ≡ id in
    rw (lines_cons pending p l ls) (elim (l.id == id) as (λ v. (l.id == id) ≡ v → cond v (Some l) (find_loan id ls) ≡ Some k → Any P (cond (is_reported pending p l) (line_of p l ∷ lines_of pending p ls) (lines_of pending p ls))) [
      | true ↦ λ same is.
          let lk : l ≡ k = cc in
          let number : l.id ≡ id = grind (arith, nat_tests) in
          let reported : is_reported pending p l ≡ true = ap (is_reported pending p) lk ∙ h in
          rw reported (any_here P (line_of p l) (lines_of pending p ls) number)
      | false ↦ λ other is.
          let rest = has_line pending p ls id k is h in
          elim (is_reported pending p l) as (λ v. Any P (cond v (line_of p l ∷ lines_of pending p ls) (lines_of pending p ls))) [
            | true ↦ any_later P (line_of p l) (lines_of pending p ls) rest
            | false ↦ rest
          ]
    ] refl e)

-- ---- what may be closed

adjusted_reported : (pending : List Adjustment) (p : ℕ) (k : Held) → boarded_month k ≤ p → is_adjusted pending k.id ≡ true → is_reported pending p k ≡ true
adjusted_reported pending p k le a =
    let by : nat_le (boarded_month k) p ≡ true = grind (arith, nat_tests) in
    rw (by, a) (last_test (not (is_zero (carry_of k (p - 1)).upb)) (not (is_zero (carry_of k (p - 1)).balance)) (not (is_zero (due_of k p).interest)) (not (is_zero (due_of k p).principal)))
  where
    last_test : (a b c d : Bool) → (a || b || c || d || true) ≡ true
    last_test true b c d = elim b as (λ b. (true || b || c || d || true) ≡ true) [ true ↦ refl | false ↦ refl ]
    last_test false true c d = refl
    last_test false false true d = refl
    last_test false false false true = refl
    last_test false false false false = refl

pub may_close : (s : Reporting) (p : ℕ) (loans : List Held) → AreSealed s → month_after (last_month s.reports) ≤ p → AllPairs rises loans → All (IsOwned loans) s.pending → All (λ l. nat_le (boarded_month l) p ≡ true → IsSmallLine (line_of p l)) loans → AreDues s.pending (lines_of s.pending p loans)
may_close s p loans sealed after_last rise owned small = record {
  rising = lines_rise s.pending p loans rise;
  no_sums = lines_all HasNoSums s.pending p loans (λ i d lt t. record { interest = refl; principal = refl });
  covered = λ i d lt.
      let a = get_or s.pending i d in
      let o = owned i d lt in
      let number = found_id a.loan loans o.loan o.found in
      let early : a.month < month_after (last_month s.reports) = (sealed.pending i d lt).high in
      let since : boarded_month o.loan ≤ a.month = o.since in
      let has : is_adjusted s.pending o.loan.id ≡ true = list_any_at (λ (x : Adjustment). x.loan == o.loan.id) s.pending i d lt (grind (arith, nat_tests, number)) in
      has_line s.pending p loans a.loan o.loan o.found (adjusted_reported s.pending p o.loan (omega arith) has);
  small = lines_all IsSmallLine s.pending p loans small;
}

-- ---- what is closed adds up

other_line : (part : DuePart) (id : ℕ) (ls : List ReportLine) → All (λ (l : ReportLine). id < l.loan) ls → total_by (lined part id) ls ≡ pos 0
other_line part id [] h = refl
other_line part id (l ∷ ls) h =
    let lt = All-head (λ (x : ReportLine). id < x.loan) l ls h in
    let apart : (l.loan == id) ≡ false = grind (arith, nat_tests) in
    let rest = other_line part id ls (All-tail (λ (x : ReportLine). id < x.loan) l ls h) in
    let none : lined part id l ≡ pos 0 = rw apart refl in
    omega (arith, ints, none, rest)

line_part : (part : DuePart) (p : ℕ) (l : Held) → part_of_line part (line_of p l) ≡ part_of_due part (due_of l p)
line_part Interest p l = refl
line_part Principal p l = refl

own_line : (part : DuePart) (p : ℕ) (l : Held) → lined part l.id (line_of p l) ≡ part_of_due part (due_of l p)
own_line part p l =
    let same : (l.id == l.id) ≡ true = grind (arith, nat_tests) in
    ap (λ b. if b then part_of_line part (line_of p l) else pos 0) same ∙ line_part part p l

-- nothing is due of a loan without a line
zero_is : (z : ℤ) → not (is_zero z) ≡ false → z ≡ pos 0
zero_is z e = (Decides-int_eq z (pos 0)).0 (elim (is_zero z) as (λ v. not v ≡ false → v ≡ true) [ true ↦ λ h. refl | false ↦ λ h. absurd (cc) ] e)

tests_false : (a b c d e : Bool) → (a || b || c || d || e) ≡ false → (c ≡ false) × (d ≡ false)
tests_false true b c d e h = absurd (always b c d e h)
  where
    always : (b c d e : Bool) → (true || b || c || d || e) ≡ false → ⊥
    always b c d e h = absurd (grind arith)
tests_false false true c d e h = absurd (grind arith)
tests_false false false true d e h = absurd (grind arith)
tests_false false false false true e h = absurd (grind arith)
tests_false false false false false e h = (refl, refl)

unreported_due : (part : DuePart) (pending : List Adjustment) (p : ℕ) (l : Held) → is_reported pending p l ≡ false → part_of_due part (due_of l p) ≡ pos 0
unreported_due part pending p l e =
    elim (nat_le (boarded_month l) p) as (λ v. nat_le (boarded_month l) p ≡ v → part_of_due part (due_of l p) ≡ pos 0) [
      | true ↦ λ by.
          let rest = rw by at e in
          let t = tests_false (not (is_zero (carry_of l (p - 1)).upb)) (not (is_zero (carry_of l (p - 1)).balance)) (not (is_zero (due_of l p).interest)) (not (is_zero (due_of l p).principal)) (is_adjusted pending l.id) rest in
          parts part (zero_is (due_of l p).interest t.0) (zero_is (due_of l p).principal t.1)
      | false ↦ λ early.
          let none = due_before l p (grind (arith, nat_tests)) in
          parts part (sym none.interest) (sym none.principal)
    ] refl
  where
    parts : (part : DuePart) → (due_of l p).interest ≡ pos 0 → (due_of l p).principal ≡ pos 0 → part_of_due part (due_of l p) ≡ pos 0
    parts Interest i q = i
    parts Principal i q = q

-- the lines of a loan say what is due of it
pub lines_say : (part : DuePart) (pending : List Adjustment) (p id : ℕ) (ls : List Held) → AllPairs rises ls → total_by (lined part id) (lines_of pending p ls) ≡ part_of_due part (due_by (find_loan id ls) p)
lines_say part pending p id [] h = ap (total_by (lined part id)) (lines_nil pending p) ∙ nothing part
  where
    nothing : (part : DuePart) → pos 0 ≡ part_of_due part (nothing_due p)
    nothing Interest = refl
    nothing Principal = refl
lines_say part pending p id (l ∷ ls) h =
    let rest = lines_say part pending p id ls (pairs_tail rises l ls h) in
    ap (total_by (lined part id)) (lines_cons pending p l ls) ∙ (elim (l.id == id) as (λ v. (l.id == id) ≡ v → total_by (lined part id) (cond (is_reported pending p l) (line_of p l ∷ lines_of pending p ls) (lines_of pending p ls)) ≡ part_of_due part (due_by (cond v (Some l) (find_loan id ls)) p)) [
      | true ↦ λ same.
          let number : l.id ≡ id = grind (arith, nat_tests) in
          let above : All (λ (m : ReportLine). id < m.loan) (lines_of pending p ls) = subst (λ n. All (λ (m : ReportLine). n < m.loan) (lines_of pending p ls)) number (lines_all (λ (m : ReportLine). l.id < m.loan) pending p ls (λ i d lt t. pairs_head rises l ls h i d lt)) in
          let none = other_line part id (lines_of pending p ls) above in
          elim (is_reported pending p l) as (λ v. is_reported pending p l ≡ v → total_by (lined part id) (cond v (line_of p l ∷ lines_of pending p ls) (lines_of pending p ls)) ≡ part_of_due part (due_of l p)) [
            | true ↦ λ r.
                let own : lined part id (line_of p l) ≡ part_of_due part (due_of l p) = ap (λ n. lined part n (line_of p l)) (sym number) ∙ own_line part p l in
                omega (arith, ints, own, none)
            | false ↦ λ r. none ∙ sym (unreported_due part pending p l r)
          ] refl
      | false ↦ λ apart.
          elim (is_reported pending p l) as (λ v. total_by (lined part id) (cond v (line_of p l ∷ lines_of pending p ls) (lines_of pending p ls)) ≡ part_of_due part (due_by (find_loan id ls) p)) [
            | true ↦
                let none : lined part id (line_of p l) ≡ pos 0 = ap (λ b. if b then part_of_line part (line_of p l) else pos 0) apart in
                omega (arith, ints, none, rest)
            | false ↦ rest
          ]
    ] refl)

-- nothing is due of loans that are taken on later
early_due : (part : DuePart) (id q p : ℕ) (ls : List Held) → q < p → All (λ (l : Held). p ≤ boarded_month l) ls → part_of_due part (due_by (find_loan id ls) q) ≡ pos 0
early_due part id q p [] lt h = nothing part
  where
    nothing : (part : DuePart) → part_of_due part (nothing_due q) ≡ pos 0
    nothing Interest = refl
    nothing Principal = refl
early_due part id q p (l ∷ ls) lt h =
    let from = All-head (λ (x : Held). p ≤ boarded_month x) l ls h in
    elim (l.id == id) as (λ v. part_of_due part (due_by (cond v (Some l) (find_loan id ls)) q) ≡ pos 0) [
      | true ↦ let none = due_before l q (omega arith) in parts part none
      | false ↦ early_due part id q p ls lt (All-tail (λ (x : Held). p ≤ boarded_month x) l ls h)
    ]
  where
    parts : (part : DuePart) → IsSameDue (nothing_due q) (due_of l q) → part_of_due part (due_of l q) ≡ pos 0
    parts Interest none = sym none.interest
    parts Principal none = sym none.principal

-- after a closing the months up to the one that is closed add up
pub close_adds : (s : Reporting) (p : ℕ) (loans : List Held) → AreSealed s → AddUp s loans → MayClose s p (lines_of s.pending p loans) → AllPairs rises loans → (last_month s.reports ≡ None → All (λ (l : Held). p ≤ boarded_month l) loans) → AddUp (after s (Close p (lines_of s.pending p loans))) loans
close_adds s p loans sealed add may rise first part id q lt =
    let dues = lines_of s.pending p loans in
    let now : month_after (last_month (after s (Close p dues)).reports) ≡ p + 1 = ap month_after (last_month-push s.reports (report_of p dues s.pending)) in
    let upto : q < p + 1 = subst (λ n. q < n) now lt in
    let call = call_adds_up part id q s (Close p dues) sealed may in
    call ∙ (elim (p == q) as (λ v. (p == q) ≡ v → (if v then total_by (lined part id) dues else total part id q s) ≡ part_of_due part (due_by (find_loan id loans) q)) [
      | true ↦ λ same.
          let here : p ≡ q = grind (arith, nat_tests) in
          lines_say part s.pending p id loans rise ∙ ap (λ m. part_of_due part (due_by (find_loan id loans) m)) here
      | false ↦ λ apart.
          let before : q < p = grind (arith, nat_tests) in
          elim (last_month s.reports) as (λ o. last_month s.reports ≡ o → total part id q s ≡ part_of_due part (due_by (find_loan id loans) q)) [
            | None ↦ λ none.
                let zero' : month_after (last_month s.reports) ≤ q = rw none (omega arith) in
                total_before part id (month_after (last_month s.reports)) q s zero' sealed ∙ sym (early_due part id q p loans before (first none))
            | Some last ↦ λ some.
                let next : p ≡ last + 1 = next_of (last_month s.reports) last some may.expected.next in
                let in' : q < month_after (last_month s.reports) = rw some (omega arith) in
                add part id q in'
          ] refl
    ] refl)
  where
    next_of : (o : Option ℕ) (last : ℕ) → o ≡ Some last → IfSome o (λ l. p ≡ l + 1) → p ≡ last + 1
    next_of o last e h = rw e at h
