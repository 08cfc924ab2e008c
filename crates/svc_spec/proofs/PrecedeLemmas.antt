-- The events of a loan stand in order, and all of them do.
use Rattle.std.proofs.Common.{◌≡◌, ℕ, zero, suc, ◌+◌, ◌-◌, ◌≤◌, true, false, List, [], ◌∷◌, ◌++◌, map, arith, refl, append_assoc}
use Rattle.std.specs.Prelude.{nat_le, if◌then◌else◌}
use Rattle.std.specs.List.{All, AllPairs}
use Rattle.std.specs.List.Sorted.{IsPermutation}
use Rattle.std.proofs.lemmas.List.Elements.{All-cons, All-head, All-tail, All-append, All-map, All-filter}
use Rattle.std.proofs.lemmas.List.Kept.{AllPairs-cons}
use Rattle.std.proofs.lemmas.List.Sorted.{IsPermutation-refl, IsPermutation-sym, IsPermutation-trans, IsPermutation-middle, IsPermutation-cons}
use Rattle.svc_base.specs.Calendar.{month_of}
use Rattle.svc_types.specs.declared.terms.Terms.{Terms}
use Rattle.svc_types.specs.declared.account.Entry.{Entry}
use Rattle.svc_types.specs.declared.account.Event.{Event}
use Rattle.svc_types.proofs.OrderLemmas.{pairs_tail, pairs_head}
use Rattle.svc_spec.specs.Events.{month_mark, month_marks_from, month_marks, late_mark, late_marks_from, late_marks, event_of, entry_events, insert_event, by_day, events_to}
use Rattle.svc_spec.specs.Order.{rank, MayPrecede}
use Rattle.svc_spec.proofs.SettlingLemmas.{from_nat_le, from_not_nat_le}
use Rattle.svc_spec.proofs.EventLemmas.{insert_all, by_day_all}

-- events by rank
abbrev AreRanked : List Event → Type 0
AreRanked [] = Unit {0}
AreRanked (e ∷ es) = All (λ x. rank e.what ≤ rank x.what) es × AreRanked es

ranked_front : (r : ℕ) (xs ys : List Event) → All (λ x. rank x.what ≡ r) xs → All (λ y. r ≤ rank y.what) ys → AreRanked ys → AreRanked (xs ++ ys)
ranked_front r [] ys h g rest = rest
ranked_front r (x ∷ xs) ys h g rest =
    let P : Event → Type 0 = λ y. rank x.what ≤ rank y.what in
    let here = All-head (λ y. rank y.what ≡ r) x xs h in
    let others = All-tail (λ y. rank y.what ≡ r) x xs h in
    let front : All P xs = λ k d lt. let same = others k d lt in omega arith in
    let back : All P ys = λ k d lt. let more = g k d lt in omega arith in
    (All-append P xs ys front back, ranked_front r xs ys others g rest)

ranked_last : (r : ℕ) (xs : List Event) → All (λ x. rank x.what ≡ r) xs → AreRanked xs
ranked_last r [] h = tt
ranked_last r (x ∷ xs) h =
    let here = All-head (λ y. rank y.what ≡ r) x xs h in
    let others = All-tail (λ y. rank y.what ≡ r) x xs h in
    ((λ k d lt. let same = others k d lt in omega arith), ranked_last r xs others)

insert_precedes : (e : Event) (xs : List Event) → All (λ x. rank e.what ≤ rank x.what) xs → AllPairs MayPrecede xs → AllPairs MayPrecede (insert_event e xs)
insert_precedes e [] ranks h = AllPairs-cons MayPrecede e [] (λ k d lt. absurd (omega arith)) h
insert_precedes e (x ∷ xs) ranks h =
    let head : All (MayPrecede x) xs = pairs_head MayPrecede x xs h in
    let first = All-head (λ y. rank e.what ≤ rank y.what) x xs ranks in
    let others = All-tail (λ y. rank e.what ≤ rank y.what) x xs ranks in
    elim (nat_le e.day x.day) as (λ v. nat_le e.day x.day ≡ v → AllPairs MayPrecede (if v then e ∷ x ∷ xs else x ∷ insert_event e xs)) [
      | true ↦ λ le.
          let by = from_nat_le e.day x.day le in
          let here : MayPrecede e x = record { day = by; same_day = λ same. first } in
          let more : All (MayPrecede e) xs = λ k d lt. let later = (head k d lt).day in record { day = omega arith; same_day = λ same. others k d lt } in
          AllPairs-cons MayPrecede e (x ∷ xs) (All-cons (MayPrecede e) x xs here more) h
      | false ↦ λ gt.
          let after = from_not_nat_le e.day x.day gt in
          let here : MayPrecede x e = record { day = omega arith; same_day = λ same. absurd (omega arith) } in
          AllPairs-cons MayPrecede x (insert_event e xs) (insert_all (MayPrecede x) e xs here head) (insert_precedes e xs others (pairs_tail MayPrecede x xs h))
    ] refl

by_day_precedes : (xs : List Event) → AreRanked xs → AllPairs MayPrecede (by_day xs)
by_day_precedes [] h = λ i j d lt within. absurd (omega arith)
by_day_precedes (x ∷ xs) h = insert_precedes x (by_day xs) (by_day_all (λ y. rank x.what ≤ rank y.what) xs h.0) (by_day_precedes xs h.1)

months_ranks : (m n : ℕ) → All (λ e. rank e.what ≡ 0) (month_marks_from m n)
months_ranks m zero = λ k d lt. absurd (omega arith)
months_ranks m (suc n) = All-cons (λ e. rank e.what ≡ 0) (month_mark m) (month_marks_from (m + 1) n) refl (months_ranks (m + 1) n)

lates_ranks : (t : Terms) (k n : ℕ) → All (λ e. rank e.what ≡ 1) (late_marks_from t k n)
lates_ranks t k zero = λ j d lt. absurd (omega arith)
lates_ranks t k (suc n) = All-cons (λ e. rank e.what ≡ 1) (late_mark t k) (late_marks_from t (k + 1) n) refl (lates_ranks t (k + 1) n)

pub events_precede : (t : Terms) (live : List Entry) (d : ℕ) → AllPairs MayPrecede (events_to t live d)
unfolding events_to
events_precede t live d =
    let months = month_marks t d in
    let lates = late_marks t d in
    let entries = entry_events live d in
    let third : All (λ e. rank e.what ≡ 2) entries = All-filter (λ e. nat_le e.day d) (λ e. rank e.what ≡ 2) (map event_of live) (All-map (λ e. rank e.what ≡ 2) event_of live (λ k x lt. refl)) in
    let second : All (λ e. rank e.what ≡ 1) lates = All-filter (λ e. nat_le e.day d) (λ e. rank e.what ≡ 1) (late_marks_from t 1 t.term) (lates_ranks t 1 t.term) in
    let first : All (λ e. rank e.what ≡ 0) months = months_ranks (month_of t.boarded + 1) (month_of d - month_of t.boarded) in
    let above : All (λ e. 1 ≤ rank e.what) entries = λ k x lt. let same = third k x lt in omega arith in
    let back = ranked_front 1 lates entries second above (ranked_last 2 entries third) in
    let all = ranked_front 0 months (lates ++ entries) first (λ k x lt. omega arith) back in
    by_day_precedes (months ++ lates ++ entries) (rw append_assoc all)

-- ---- all of them

insert_permutes : (e : Event) (xs : List Event) → IsPermutation (e ∷ xs) (insert_event e xs)
insert_permutes e [] = IsPermutation-refl (e ∷ [])
insert_permutes e (x ∷ xs) =
    let turned : IsPermutation (e ∷ x ∷ xs) (x ∷ e ∷ xs) = IsPermutation-sym (x ∷ e ∷ xs) (e ∷ x ∷ xs) (IsPermutation-middle (x ∷ []) e xs) in
    let behind : IsPermutation (x ∷ e ∷ xs) (x ∷ insert_event e xs) = IsPermutation-cons x (e ∷ xs) (insert_event e xs) (insert_permutes e xs) in
    elim (nat_le e.day x.day) as (λ v. IsPermutation (e ∷ x ∷ xs) (if v then e ∷ x ∷ xs else x ∷ insert_event e xs)) [
      | true ↦ IsPermutation-refl (e ∷ x ∷ xs)
      | false ↦ IsPermutation-trans (e ∷ x ∷ xs) (x ∷ e ∷ xs) (x ∷ insert_event e xs) turned behind
    ]

by_day_permutes : (xs : List Event) → IsPermutation xs (by_day xs)
by_day_permutes [] = IsPermutation-refl []
by_day_permutes (x ∷ xs) = IsPermutation-trans (x ∷ xs) (x ∷ by_day xs) (insert_event x (by_day xs)) (IsPermutation-cons x xs (by_day xs) (by_day_permutes xs)) (insert_permutes x (by_day xs))

pub events_are_all : (t : Terms) (live : List Entry) (d : ℕ) → IsPermutation (month_marks t d ++ late_marks t d ++ entry_events live d) (events_to t live d)
unfolding events_to
events_are_all t live d = by_day_permutes (month_marks t d ++ late_marks t d ++ entry_events live d)
