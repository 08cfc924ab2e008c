-- A place after all events up to a day: what is left there is what is past the day.
use Rattle.std.proofs.Common.{◌≡◌, ℕ, zero, suc, ◌+◌, ◌-◌, ◌≤◌, ◌<◌, true, false, List, [], ◌∷◌, ◌++◌, length, map, take, drop, get_or, arith, refl, ap, ◌∙◌}
use Rattle.std.specs.Prelude.{nat_le, nat_lt}
use Rattle.std.specs.List.{All, AllPairs}
use Rattle.std.specs.List.Sorted.{IsPartitionedBy, IsPartitionPoint}
use Rattle.std.proofs.lemmas.List.{get_or_default}
use Rattle.std.proofs.lemmas.List.Elements.{All-cons}
use Rattle.std.proofs.lemmas.Bool.Decides.{nat_tests}
use Rattle.svc_base.specs.Calendar.{month_of}
use Rattle.svc_types.specs.declared.terms.Terms.{Terms}
use Rattle.svc_types.specs.declared.account.Entry.{Entry}
use Rattle.svc_types.specs.Terms.{IsSound}
use Rattle.svc_spec.specs.Events.{month_marks_from, month_marks, late_marks_from, late_marks, up_to, event_of, entry_events, by_day, events_to}
use Rattle.svc_spec.proofs.SettlingLemmas.{nat_le-true, from_nat_le, from_not_nat_le}
use Rattle.svc_spec.proofs.TimeLemmas.{past}
use Rattle.svc_spec.proofs.PastLemmas.{past_append, past_up_to, past_by_day, past_months, past_lates, past_entries}
use Rattle.svc_replay.specs.Left.{months_left, lates_left, entries_left, left, IsAfter}

pub past_left : (t : Terms) (live : List Entry) (d d' m k i : ℕ) → IsSound t → month_of t.boarded ≤ month_of d → d ≤ d' → IsAfter t live d m k i → past d (events_to t live d') ≡ left t live d' m k i
unfolding left events_to
past_left t live d d' m k i s since le h =
    let months = month_marks t d' in
    let lates = late_marks t d' in
    let entries = entry_events live d' in
    let here = h.month in
    let count : month_of t.boarded + 1 + (month_of d' - month_of t.boarded) - (month_of d + 1) ≡ month_of d' - m = omega arith in
    let next : month_of d + 1 ≡ m + 1 = omega arith in
    let a : past d months ≡ months_left m d' = past_months d (month_of t.boarded + 1) (month_of d' - month_of t.boarded) (omega arith) ∙ ap (month_marks_from (month_of d + 1)) count ∙ ap (λ x. month_marks_from x (month_of d' - m)) next in
    let b : past d lates ≡ lates_left t k d' = past_up_to d d' (late_marks_from t 1 t.term) ∙ ap (up_to d') (past_lates t d k 1 t.term s (omega arith) (omega arith) (omega arith) h.few h.over h.open_grace) in
    let c : past d entries ≡ entries_left live i d' = past_up_to d d' (map event_of live) ∙ ap (up_to d') (past_entries live i d h.taken h.later) in
    past_by_day d (months ++ lates ++ entries)
    ∙ ap by_day (past_append d (months ++ lates) entries ∙ ap (λ xs. xs ++ past d entries) (past_append d months lates))
    ∙ rw (a, b, c)

-- ---- the entries up to a day

pub days_partitioned : (live : List Entry) (d : ℕ) → AllPairs (λ a b. a.day ≤ b.day) live → IsPartitionedBy (λ e. nat_le e.day d) live
days_partitioned live d h i j x le within later =
    elim (nat_lt i j) as (λ v. nat_lt i j ≡ v → nat_le (get_or live i x).day d ≡ true) [
      | true ↦ λ e.
          let lt : i < j = grind (arith, nat_tests) in
          let rises = h i j x lt within in
          let by = from_nat_le (get_or live j x).day d later in
          nat_le-true (get_or live i x).day d (omega arith)
      | false ↦ λ e. let back : j ≤ i = grind (arith, nat_tests) in let same : i ≡ j = omega arith in rw same later
    ] refl

all_taken : (P : Entry → Type 0) (xs : List Entry) (i : ℕ) → i ≤ length xs → ((k : ℕ) (d : Entry) → k < i → P (get_or xs k d)) → All P (take i xs)
all_taken P [] zero le h = λ k d lt. absurd (omega arith)
all_taken P [] (suc i) le h = absurd (omega arith)
all_taken P (x ∷ xs) zero le h = λ k d lt. absurd (omega arith)
all_taken P (x ∷ xs) (suc i) le h = All-cons P x (take i xs) (h 0 x (omega arith)) (all_taken P xs i (omega arith) (λ k d lt. h (suc k) d (omega arith)))

all_dropped : (P : Entry → Type 0) (xs : List Entry) (i : ℕ) → ((k : ℕ) (d : Entry) → i ≤ k → k < length xs → P (get_or xs k d)) → All P (drop i xs)
all_dropped P [] zero h = λ k d lt. absurd (omega arith)
all_dropped P [] (suc i) h = λ k d lt. absurd (omega arith)
all_dropped P (x ∷ xs) zero h = λ k d lt. h k d (omega arith) lt
all_dropped P (x ∷ xs) (suc i) h = all_dropped P xs i (λ k d low lt. h (suc k) d (omega arith) (omega arith))

pub point_taken : (live : List Entry) (d i : ℕ) → i ≤ length live → IsPartitionPoint (λ e. nat_le e.day d ≡ true) (λ e. nat_le e.day d ≡ false) live i → All (λ e. e.day ≤ d) (take i live)
point_taken live d i le point = all_taken (λ e. e.day ≤ d) live i le (λ k x lt. from_nat_le (get_or live k x).day d (point.0 k x (omega arith) lt))

pub point_dropped : (live : List Entry) (d i : ℕ) → IsPartitionPoint (λ e. nat_le e.day d ≡ true) (λ e. nat_le e.day d ≡ false) live i → All (λ e. d < e.day) (drop i live)
point_dropped live d i point = all_dropped (λ e. d < e.day) live i (λ k x low lt. from_not_nat_le (get_or live k x).day d (point.1 k x low lt))

-- the first n are up to a day where the last of them is
pub first_taken : (live : List Entry) (d n : ℕ) (x : Entry) → AllPairs (λ a b. a.day ≤ b.day) live → n ≤ length live → get_or live (n - 1) x ≡ x → (1 ≤ n → x.day ≤ d) → All (λ e. e.day ≤ d) (take n live)
first_taken live d n x h le at by = all_taken (λ e. e.day ≤ d) live n le (λ k y lt. (
    let last : (get_or live (n - 1) y).day ≡ x.day = ap (λ (e : Entry). e.day) (get_or_default live (n - 1) y x (omega arith) ∙ at) in
    let most = by (omega (arith, lt)) in
    elim (nat_lt k (n - 1)) as (λ v. nat_lt k (n - 1) ≡ v → (get_or live k y).day ≤ d) [
      | true ↦ λ e.
          let less : k < n - 1 = grind (arith, nat_tests) in
          let rises = h k (n - 1) y less (omega arith) in
          omega (arith, rises, last, most)
      | false ↦ λ e. let back : n - 1 ≤ k = grind (arith, nat_tests) in let same : k ≡ n - 1 = omega (arith, back, lt) in rw same (omega (arith, last, most))
    ] refl))

-- and all from the last of them on are later where that is
pub last_dropped : (live : List Entry) (d n : ℕ) (x : Entry) → AllPairs (λ a b. a.day ≤ b.day) live → n ≤ length live → 1 ≤ n → get_or live (n - 1) x ≡ x → d < x.day → All (λ e. d < e.day) (drop (n - 1) live)
last_dropped live d n x h le some at late = all_dropped (λ e. d < e.day) live (n - 1) (λ k y low lt. (
    let last : (get_or live (n - 1) y).day ≡ x.day = ap (λ (e : Entry). e.day) (get_or_default live (n - 1) y x (omega arith) ∙ at) in
    elim (nat_lt (n - 1) k) as (λ v. nat_lt (n - 1) k ≡ v → d < (get_or live k y).day) [
      | true ↦ λ e.
          let less : n - 1 < k = grind (arith, nat_tests) in
          let rises = h (n - 1) k y less lt in
          omega (arith, rises, last, late)
      | false ↦ λ e. let back : k ≤ n - 1 = grind (arith, nat_tests) in let same : k ≡ n - 1 = omega (arith, back, low) in rw same (omega (arith, last, late))
    ] refl))
