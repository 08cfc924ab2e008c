-- A world stays sound where one loan is changed from a month on: by an entry, a reversal, an analysis, a change
-- of type, a line.
use Rattle.std.proofs.Common.{◌≡◌, ℕ, suc, ◌+◌, ◌-◌, ◌≤◌, ◌<◌, true, false, List, [], ◌∷◌, ◌++◌, map, length, get_or, arith, refl, sym, ap, subst, ◌∙◌, length-append}
use Rattle.std.specs.Prelude.{◌==◌, Option, Some, None, IfSome}
use Rattle.std.specs.List.{All, AllPairs, range_with_len}
use Rattle.std.proofs.lemmas.Bool.Decides.{nat_tests}
use Rattle.std.proofs.lemmas.List.Elements.{All-append}
use Rattle.remit_types.specs.declared.dues.MonthDue.{MonthDue}
use Rattle.period_adjust.specs.declared.adjustment.Adjustment.{Adjustment}
use Rattle.period_adjust.specs.Sealed.{Sealed, reporting}
use Rattle.period_adjust.specs.Changes.{adjustments_of}
use Rattle.period_adjust.specs.Totals.{Change, after}
use Rattle.period_adjust.specs.Conditions.{IsClosed, MayChange, first_month, last_month, count_held}
use Rattle.period_adjust.specs.Kept.{AreSealed, AreConsecutive, month_after}
use Rattle.period_adjust.proofs.SealedLemmas.{sealed_call, adjustments_all, adjustments_loan}
use Rattle.period_adjust.proofs.KeptLemmas.{closed_to_end, month_after-last}
use Rattle.svc_world.specs.Held.{Held, find_loan, changed, boarded_month}
use Rattle.svc_world.specs.LoanDues.{due_of}
use Rattle.svc_world.specs.Reports.{months_of, changes_of}
use Rattle.svc_world.specs.World.{World}
use Rattle.svc_world.specs.Worlds.{IsLimited, IsHeld, IsThere, IsOwned, AddUp, IsWorld}
use Rattle.svc_world.specs.Changing.{world_with}
use Rattle.svc_world.specs.Laws.{IsFrom}
use Rattle.svc_world.proofs.AgreeLemmas.{AgreeTo}
use Rattle.svc_world.proofs.CarryLemmas.{due_small}
use Rattle.svc_world.proofs.ChangesLemmas.{months_are, changes_from, changes_changed}
use Rattle.svc_world.proofs.AddUpLemmas.{change_adds, may_record, dues_all}
use Rattle.svc_world.proofs.LoanListLemmas.{rises, all_found, found_all, KeepsNumber, find_changed, find_changed_other, changed_all, changed_numbers, rises_by, length_by}

-- ---- the months of adjustments

adjusts_since : (P : ℕ → Type 0) (n id : ℕ) (l k : Held) (m c : ℕ) → ((p : ℕ) → m ≤ p → P p) → All (λ (a : Adjustment). P a.month) (adjustments_of n id (map (due_of l) (range_with_len m c)) (map (due_of k) (range_with_len m c)))
adjusts_since P n id l k m c h = adjustments_all P n id (map (due_of l) (range_with_len m c)) (map (due_of k) (range_with_len m c)) (dues_all (λ (d : MonthDue). P d.month) k m c (λ p low high. h p low))

-- ---- the changed loan

-- a change of a loan from month m on
pub record IsChange (n day m : ℕ) (f : Held → Held) (l : Held) : Type 0 where
  pub number : KeepsNumber f
  pub boarded : (k : Held) → boarded_month (f k) ≡ boarded_month k
  pub agree : AgreeTo m l (f l)
  pub since : boarded_month l ≤ m
  pub held : IsHeld n day (f l)

-- what is there is there after it
there_after : (id : ℕ) (f : Held → Held) (loans : List Held) (other month : ℕ) → KeepsNumber f → ((k : Held) → boarded_month (f k) ≡ boarded_month k) → IsThere loans other month → IsThere (changed id f loans) other month
there_after id f loans other month keeps same h =
    elim (id == other) as (λ v. (id == other) ≡ v → IsThere (changed id f loans) other month) [
      | true ↦ λ e.
          let is : id ≡ other = grind (arith, nat_tests) in
          let found : find_loan id loans ≡ Some h.loan = ap (λ i. find_loan i loans) is ∙ h.found in
          let since : boarded_month (f h.loan) ≤ month = subst (λ b. b ≤ month) (sym (same h.loan)) h.since in
          record { loan = f h.loan; found = ap (λ i. find_loan i (changed id f loans)) (sym is) ∙ find_changed id f loans h.loan found keeps; since = since }
      | false ↦ λ e. record { loan = h.loan; found = find_changed_other id other f loans e keeps ∙ h.found; since = h.since }
    ] refl

-- how many closed months there are from a month on
abbrev pub closed_months : List Sealed → ℕ → ℕ
closed_months reports m = month_after (last_month reports) - m

abbrev pub adjusts_of : ℕ → List Sealed → ℕ → Held → Held → List Adjustment
adjusts_of n reports m l k = adjustments_of n l.id (map (due_of l) (range_with_len m (closed_months reports m))) (map (due_of k) (range_with_len m (closed_months reports m)))

-- the adjustments of the command are those of the loan from the changed month on
pub changes_are : (n m : ℕ) (reports : List Sealed) (loans : List Held) (f : Held → Held) (l : Held) → AreConsecutive reports → IfSome (first_month reports) (λ first. first ≤ m) → AllPairs rises loans → find_loan l.id loans ≡ Some l → KeepsNumber f → AgreeTo m l (f l) → boarded_month l ≤ m → changes_of n (months_of reports) loans (changed l.id f loans) ≡ adjusts_of n reports m l (f l)
changes_are n m [] loans f l consecutive first rise e keeps agree from =
    let none : 0 - m ≡ 0 = omega arith in
    changes_changed n [] loans loans l.id f l (all_found loans rise) e keeps ∙ sym (ap (λ c. adjustments_of n l.id (map (due_of l) (range_with_len m c)) (map (due_of (f l)) (range_with_len m c))) none)
changes_are n m (r ∷ rs) loans f l consecutive first rise e keeps agree from =
    let months = months_are r rs consecutive in
    let end = month_after-last r rs consecutive in
    let count : r.month + suc (length rs) - m ≡ closed_months (r ∷ rs) m = omega (arith, end) in
    changes_changed n (months_of (r ∷ rs)) loans loans l.id f l (all_found loans rise) e keeps
    ∙ ap (λ ms. adjustments_of n l.id (map (due_of l) ms) (map (due_of (f l)) ms)) months
    ∙ changes_from n l.id m l (f l) r.month (suc (length rs)) agree from first
    ∙ ap (λ c. adjustments_of n l.id (map (due_of l) (range_with_len m c)) (map (due_of (f l)) (range_with_len m c))) count

pub first_by : (o : Option ℕ) (m b : ℕ) (loans : List Held) (l : Held) → IfSome o (λ first. All (λ (k : Held). first ≤ boarded_month k) loans) → find_loan l.id loans ≡ Some l → boarded_month l ≤ m → IfSome o (λ first. first ≤ m)
first_by None m b loans l h e le = tt
first_by (Some first) m b loans l h e le = let low : first ≤ boarded_month l = found_all (λ (k : Held). first ≤ boarded_month k) l.id loans l e h in omega arith

-- so they are of the loan, and of months from that one on
pub own_changes : (n m k : ℕ) (w : World) (f : Held → Held) (l : Held) → IsWorld n w → find_loan l.id w.loans ≡ Some l → KeepsNumber f → AgreeTo m l (f l) → boarded_month l ≤ m → All (IsFrom l.id m) (changes_of k (months_of w.seals.reports) w.loans (changed l.id f w.loans))
own_changes n m k w f l h found keeps agree since =
    let s = w.seals in
    let first = first_by (first_month s.reports) m 0 w.loans l h.reports.from_first found since in
    let are = changes_are k m s.reports w.loans f l h.reports.sealed.consecutive first h.rising found keeps agree since in
    let c = closed_months s.reports m in
    let before = map (due_of l) (range_with_len m c) in
    let later = map (due_of (f l)) (range_with_len m c) in
    let own : All (IsFrom l.id m) (adjusts_of k s.reports m l (f l)) = λ i d lt.
    record { loan = adjustments_loan k l.id before later i d lt; since = adjusts_since (λ p. m ≤ p) k l.id l (f l) m c (λ p le. le) i d lt } in
    subst (λ xs. All (IsFrom l.id m) xs) (sym are) own

-- the closed months from a month on
closed_since : (reports : List Sealed) (m p : ℕ) → AreConsecutive reports → IfSome (first_month reports) (λ first. first ≤ m) → m ≤ p → p < month_after (last_month reports) → IsClosed reports p
closed_since [] m p consecutive first low high = absurd (omega arith)
closed_since (r ∷ rs) m p consecutive first low high = closed_to_end (r ∷ rs) r.month p consecutive refl (omega arith) high

all_if : (o : Option ℕ) (f : Held → Held) (loans : List Held) (l : Held) → ((k : Held) → boarded_month (f k) ≡ boarded_month k) → find_loan l.id loans ≡ Some l → IfSome o (λ first. All (λ (k : Held). first ≤ boarded_month k) loans) → IfSome o (λ first. All (λ (k : Held). first ≤ boarded_month k) (changed l.id f loans))
all_if None f loans l same e h = tt
all_if (Some first) f loans l same e h =
    let here : first ≤ boarded_month l = found_all (λ (k : Held). first ≤ boarded_month k) l.id loans l e h in
    changed_all (λ (k : Held). first ≤ boarded_month k) (λ (k : Held). first ≤ boarded_month k) l.id f loans l e h (λ k p. p) (subst (λ b. first ≤ b) (sym (same l)) here)

-- what holds of a loan after n commands holds after one more
pub held_more : (n day : ℕ) (l : Held) → IsHeld n day l → IsHeld (n + 1) day l
held_more n day l h = record { limited = h.limited; today = h.today; numbers = λ k d lt. (let le : (get_or l.account.entries k d).number ≤ n = h.numbers k d lt in omega arith); lines = h.lines; types = h.types; since = h.since }

-- ---- the changed world

pub change_keeps : (n m : ℕ) (w : World) (f : Held → Held) (l : Held) → IsWorld n w → n < 1_000_000 → find_loan l.id w.loans ≡ Some l → IsChange (n + 1) w.today m f l → count_held w.seals + closed_months w.seals.reports m ≤ 4_000_000 → IsWorld (n + 1) (world_with w l.id f (n + 1))
change_keeps n m w f l h few e ch room =
    let s = w.seals in
    let r = h.reports in
    let c = closed_months s.reports m in
    let before = map (due_of l) (range_with_len m c) in
    let later = map (due_of (f l)) (range_with_len m c) in
    let consecutive = r.sealed.consecutive in
    let from : IfSome (first_month s.reports) (λ first. first ≤ m) = first_by (first_month s.reports) m 0 w.loans l r.from_first e ch.since in
    let limited : IsLimited l.account = (found_all (IsHeld n w.today) l.id w.loans l e h.held).limited in
    let small : (p : ℕ) → p < month_after (last_month s.reports) → p < 25_692 = λ p lt. (let most = r.sealed.most in omega arith) in
    let below : (p : ℕ) → m ≤ p → p < m + c → p < month_after (last_month s.reports) = λ p low high. omega arith in
    let may : MayChange s (n + 1) l.id before later = may_record s (n + 1) w.loans l (f l) m c h.add_up e
    (λ p low high. closed_since s.reports m p consecutive from low (below p low high))
    below
    (λ p low high. due_small l p (small p (below p low high)) limited)
    (λ p low high. due_small (f l) p (small p (below p low high)) ch.held.limited)
    room in
    let are = changes_are (n + 1) m s.reports w.loans f l consecutive from h.rising e ch.number ch.agree ch.since in
    let new = world_with w l.id f (n + 1) in
    let same : new.seals ≡ after s (Change (n + 1) l.id before later) = ap (λ xs. reporting s.reports (s.pending ++ xs)) are in
    let sealed : AreSealed new.seals = subst AreSealed (sym same) (sealed_call s (Change (n + 1) l.id before later) r.sealed may) in
    let adds : AddUp new.seals new.loans = subst (λ x. AddUp x new.loans) (sym same) (change_adds s (n + 1) w.loans l f m c r.sealed h.add_up e ch.number ch.agree ch.since (omega arith) may) in
    let count : count_held new.seals ≤ 4_000_000 = subst (λ x. count_held x ≤ 4_000_000) (sym same) (held_count s.reports s.pending (adjusts_of (n + 1) s.reports m l (f l)) may.few) in
    let numbers = changed_numbers l.id f w.loans ch.number in
    let keep : (other month : ℕ) → IsThere w.loans other month → IsThere new.loans other month = λ other month. there_after l.id f w.loans other month ch.number ch.boarded in
    let here : (p : ℕ) → m ≤ p → IsThere new.loans l.id p = λ p le. record { loan = f l; found = find_changed l.id f w.loans l e ch.number; since = (let b = ch.boarded l in let s' = ch.since in omega arith) } in
    record {
      count = omega arith;
      today = h.today;
      rising = rises_by new.loans w.loans numbers h.rising;
      few = (let len = length_by new.loans w.loans numbers in let most = h.few in omega arith);
      held = changed_all (IsHeld n w.today) (IsHeld (n + 1) w.today) l.id f w.loans l e h.held (held_more n w.today) ch.held;
      reports = record {
        sealed = sealed;
        few = r.few;
        held = count;
        ended = r.ended;
        from_first = all_if (first_month s.reports) f w.loans l ch.boarded e r.from_first;
        owned = All-append (IsOwned new.loans) s.pending (changes_of (n + 1) (months_of s.reports) w.loans new.loans) (λ k d lt. keep (get_or s.pending k d).loan (get_or s.pending k d).month (r.owned k d lt)) (subst (λ xs. All (IsOwned new.loans) xs) (sym are) (owned_new new.loans l (f l) m c (n + 1) here));
        listed = λ k d lt i x len. keep (get_or (get_or s.reports k d).lines i x).loan (get_or s.reports k d).month (r.listed k d lt i x len);
        remitted = r.remitted;
        in_order = r.in_order;
        sends = r.sends;
        passed = r.passed;
      };
      add_up = adds;
    }
  where
    held_count : (reports : List Sealed) (pending more : List Adjustment) → count_held (reporting reports pending) + length more ≤ 4_000_000 → count_held (reporting reports (pending ++ more)) ≤ 4_000_000
    held_count reports pending more le = omega (arith, length-append pending more)

    owned_new : (loans : List Held) (l k : Held) (m c n : ℕ) → ((p : ℕ) → m ≤ p → IsThere loans l.id p) → All (IsOwned loans) (adjustments_of n l.id (map (due_of l) (range_with_len m c)) (map (due_of k) (range_with_len m c)))
    owned_new loans l k m c n here = λ i d lt.
        let loan = adjustments_loan n l.id (map (due_of l) (range_with_len m c)) (map (due_of k) (range_with_len m c)) i d lt in
        let month = adjusts_since (λ p. IsThere loans l.id p) n l.id l k m c here i d lt in
        subst (λ id. IsThere loans id (get_or (adjustments_of n l.id (map (due_of l) (range_with_len m c)) (map (due_of k) (range_with_len m c))) i d).month) (sym loan) month
