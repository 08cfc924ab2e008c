-- What a command records of a loan's dues may be recorded, and reports and adjustments add up after it.
use Rattle.std.proofs.Common.{◌≡◌, ℕ, zero, suc, ◌+◌, ◌≤◌, ◌<◌, true, false, List, [], ◌∷◌, map, length, arith, refl, sym, ap, ◌∙◌, length-append}
use Rattle.std.specs.Prelude.{◌==◌, nat_lt, ℤ, Some, if◌then◌else◌}
use Rattle.std.specs.List.{All, AllPairs, range_with_len}
use Rattle.std.proofs.lemmas.Bool.Decides.{nat_tests}
use Rattle.std.proofs.lemmas.List.Elements.{All-cons, All-nil}
use Rattle.std.proofs.lemmas.List.Kept.{AllPairs-cons}
use Rattle.remit_types.specs.declared.dues.MonthDue.{MonthDue}
use Rattle.period_adjust.specs.Sealed.{Reporting}
use Rattle.period_adjust.specs.Sums.{DuePart, Interest, Principal}
use Rattle.period_adjust.specs.Changes.{is_unchanged, adjustment, change_of, adjustments_of}
use Rattle.period_adjust.specs.Totals.{total, part_of_due, due_in, Change, after}
use Rattle.period_adjust.specs.Conditions.{IsSmallDue, IsDueSoFar, IsClosed, MayChange, last_month, count_held}
use Rattle.period_adjust.specs.Kept.{AreSealed, month_after}
use Rattle.period_adjust.proofs.SealedLemmas.{call_adds_up}
use Rattle.svc_world.specs.Held.{Held, find_loan, changed, boarded_month}
use Rattle.svc_world.specs.LoanDues.{due_of}
use Rattle.svc_world.specs.Worlds.{due_by, AddUp}
use Rattle.svc_world.proofs.AgreeLemmas.{AgreeTo, same_due}
use Rattle.svc_world.proofs.ChangesLemmas.{IsSameDue}
use Rattle.svc_world.proofs.LoanListLemmas.{KeepsNumber, find_changed, find_changed_other}

-- ---- what is given for a month by the dues of consecutive months

due_in_early : (part : DuePart) (q : ℕ) (was : ℤ) (k : Held) (m c : ℕ) → q < m → due_in part q was (map (due_of k) (range_with_len m c)) ≡ was
due_in_early part q was k m zero lt = refl
due_in_early part q was k m (suc c) lt =
    let apart : (m == q) ≡ false = grind (arith, nat_tests) in
    ap (λ b. due_in part q (if b then part_of_due part (due_of k m) else was) (map (due_of k) (range_with_len (m + 1) c))) apart ∙ due_in_early part q was k (m + 1) c (omega arith)

due_in_at : (part : DuePart) (q : ℕ) (was : ℤ) (k : Held) (m c : ℕ) → m ≤ q → q < m + c → due_in part q was (map (due_of k) (range_with_len m c)) ≡ part_of_due part (due_of k q)
due_in_at part q was k m zero low high = absurd (omega arith)
due_in_at part q was k m (suc c) low high =
    elim (m == q) as (λ v. (m == q) ≡ v → due_in part q (if v then part_of_due part (due_of k m) else was) (map (due_of k) (range_with_len (m + 1) c)) ≡ part_of_due part (due_of k q)) [
      | true ↦ λ e.
          let here : m ≡ q = grind (arith, nat_tests) in
          due_in_early part q (part_of_due part (due_of k m)) k (m + 1) c (omega arith) ∙ ap (λ p. part_of_due part (due_of k p)) here
      | false ↦ λ e.
          let later : m + 1 ≤ q = grind (arith, nat_tests) in
          due_in_at part q was k (m + 1) c later (omega arith)
    ] refl

-- ---- one loan changed from a month on

-- the months of the dues handed in reach to the last closed one
pub change_adds : (s : Reporting) (n : ℕ) (loans : List Held) (l : Held) (f : Held → Held) (m c : ℕ) → AreSealed s → AddUp s loans → find_loan l.id loans ≡ Some l → KeepsNumber f → AgreeTo m l (f l) → boarded_month l ≤ m → month_after (last_month s.reports) ≤ m + c → MayChange s n l.id (map (due_of l) (range_with_len m c)) (map (due_of (f l)) (range_with_len m c)) → AddUp (after s (Change n l.id (map (due_of l) (range_with_len m c)) (map (due_of (f l)) (range_with_len m c)))) (changed l.id f loans)
change_adds s n loans l f m c sealed add e keeps agree from reach may part id p lt =
    let later = map (due_of (f l)) (range_with_len m c) in
    let call = call_adds_up part id p s (Change n l.id (map (due_of l) (range_with_len m c)) later) sealed may in
    let was = add part id p lt in
    call ∙ (elim (l.id == id) as (λ v. (l.id == id) ≡ v → (if v then due_in part p (total part id p s) later else total part id p s) ≡ part_of_due part (due_by (find_loan id (changed l.id f loans)) p)) [
      | true ↦ λ same.
          let is : l.id ≡ id = grind (arith, nat_tests) in
          let now : find_loan id (changed l.id f loans) ≡ Some (f l) = ap (λ i. find_loan i (changed l.id f loans)) (sym is) ∙ find_changed l.id f loans l e keeps in
          let before : find_loan id loans ≡ Some l = ap (λ i. find_loan i loans) (sym is) ∙ e in
          let end : part_of_due part (due_of (f l) p) ≡ part_of_due part (due_by (find_loan id (changed l.id f loans)) p) = sym (ap (λ o. part_of_due part (due_by o p)) now) in
          elim (nat_lt p m) as (λ v. nat_lt p m ≡ v → due_in part p (total part id p s) later ≡ part_of_due part (due_by (find_loan id (changed l.id f loans)) p)) [
            | true ↦ λ early.
                let lt' : p < m = grind (arith, nat_tests) in
                due_in_early part p (total part id p s) (f l) m c lt' ∙ was ∙ ap (λ o. part_of_due part (due_by o p)) before ∙ ap (part_of_due part) (sym (same_due m l (f l) p agree from lt')) ∙ end
            | false ↦ λ late.
                let ge : m ≤ p = grind (arith, nat_tests) in
                due_in_at part p (total part id p s) (f l) m c ge (omega arith) ∙ end
          ] refl
      | false ↦ λ apart.
          let other = find_changed_other l.id id f loans apart keeps in
          was ∙ sym (ap (λ o. part_of_due part (due_by o p)) other)
    ] refl)

-- ---- other loans, of which the same is due

part_same : (part : DuePart) (b d : MonthDue) → IsSameDue b d → part_of_due part b ≡ part_of_due part d
part_same Interest b d h = h.interest
part_same Principal b d h = h.principal

pub same_adds : (s : Reporting) (ls ks : List Held) → ((id p : ℕ) → p < month_after (last_month s.reports) → IsSameDue (due_by (find_loan id ls) p) (due_by (find_loan id ks) p)) → AddUp s ls → AddUp s ks
same_adds s ls ks same add part id p lt = add part id p lt ∙ part_same part (due_by (find_loan id ls) p) (due_by (find_loan id ks) p) (same id p lt)

-- ---- what may be recorded

-- what holds of each month of a range holds of all its dues
pub dues_all : (P : MonthDue → Type 0) (l : Held) (m c : ℕ) → ((p : ℕ) → m ≤ p → p < m + c → P (due_of l p)) → All P (map (due_of l) (range_with_len m c))
dues_all P l m zero h = All-nil P
dues_all P l m (suc c) h = All-cons P (due_of l m) (map (due_of l) (range_with_len (m + 1) c)) (h m (omega arith) (omega arith)) (dues_all P l (m + 1) c (λ p low high. h p (omega arith) (omega arith)))

dues_months : (l : Held) (m c : ℕ) → map (λ (d : MonthDue). d.month) (map (due_of l) (range_with_len m c)) ≡ range_with_len m c
dues_months l m zero = refl
dues_months l m (suc c) = ap (λ xs. m ∷ xs) (dues_months l (m + 1) c)

dues_rise : (l : Held) (m c : ℕ) → AllPairs (λ (d e : MonthDue). d.month < e.month) (map (due_of l) (range_with_len m c))
dues_rise l m zero = λ i j d lt len. absurd (omega arith)
dues_rise l m (suc c) = AllPairs-cons (λ (d e : MonthDue). d.month < e.month) (due_of l m) (map (due_of l) (range_with_len (m + 1) c)) (dues_all (λ (e : MonthDue). m < e.month) l (m + 1) c (λ p low high. omega arith)) (dues_rise l (m + 1) c)

change_length : (n id : ℕ) (b d : MonthDue) → length (change_of n id b d) ≤ 1
change_length n id b d = elim (is_unchanged b d) as (λ v. length (if v then [] else adjustment n id b d ∷ []) ≤ 1) [ true ↦ omega arith | false ↦ omega arith ]

adjusts_length : (n id : ℕ) (l k : Held) (m c : ℕ) → length (adjustments_of n id (map (due_of l) (range_with_len m c)) (map (due_of k) (range_with_len m c))) ≤ c
adjusts_length n id l k m zero = omega arith
adjusts_length n id l k m (suc c) =
    omega (arith, change_length n id (due_of l m) (due_of k m), adjusts_length n id l k (m + 1) c, length-append (change_of n id (due_of l m) (due_of k m)) (adjustments_of n id (map (due_of l) (range_with_len (m + 1) c)) (map (due_of k) (range_with_len (m + 1) c))))

-- the loan before the command and after it, and the months m to m + c - 1, which are closed
pub may_record : (s : Reporting) (n : ℕ) (loans : List Held) (l k : Held) (m c : ℕ) → AddUp s loans → find_loan l.id loans ≡ Some l → ((p : ℕ) → m ≤ p → p < m + c → IsClosed s.reports p) → ((p : ℕ) → m ≤ p → p < m + c → p < month_after (last_month s.reports)) → ((p : ℕ) → m ≤ p → p < m + c → IsSmallDue (due_of l p)) → ((p : ℕ) → m ≤ p → p < m + c → IsSmallDue (due_of k p)) → count_held s + c ≤ 4_000_000 → MayChange s n l.id (map (due_of l) (range_with_len m c)) (map (due_of k) (range_with_len m c))
may_record s n loans l k m c add e closed below small_l small_k few =
    let told : (part : DuePart) (p : ℕ) → m ≤ p → p < m + c → part_of_due part (due_of l p) ≡ total part l.id p s = λ part p low high. sym (add part l.id p (below p low high) ∙ ap (λ o. part_of_due part (due_by o p)) e) in
    record {
      same_months = dues_months k m c ∙ sym (dues_months l m c);
      closed = dues_all (λ (d : MonthDue). IsClosed s.reports d.month) k m c closed;
      rising = dues_rise k m c;
      so_far = dues_all (IsDueSoFar s l.id) l m c (λ p low high. record { interest = told Interest p low high; principal = told Principal p low high });
      before_small = dues_all IsSmallDue l m c small_l;
      later_small = dues_all IsSmallDue k m c small_k;
      few = omega (arith, adjusts_length n l.id l k m c);
    }
