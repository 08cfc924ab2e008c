-- The first of the events that are left, of each kind and of all.
use Rattle.std.proofs.Common.{◌≡◌, ℕ, zero, suc, ◌+◌, ◌-◌, ◌≤◌, ◌<◌, true, false, List, [], ◌∷◌, ◌++◌, length, map, drop, get_or, drop-cons, arith, refl, sym, ap, ◌∙◌, append_assoc}
use Rattle.std.specs.Prelude.{nat_le, nat_lt, min, cond, if◌then◌else◌, Option, Some, None, IfSome}
use Rattle.std.specs.List.{All, AllPairs}
use Rattle.std.proofs.lemmas.Option.{same_Some}
use Rattle.std.proofs.lemmas.Bool.Decides.{nat_tests}
use Rattle.std.proofs.lemmas.List.Elements.{All-cons, All-head, All-tail, All-append, All-map, All-filter}
use Rattle.svc_base.specs.Calendar.{month_of, first_day}
use Rattle.svc_types.specs.declared.terms.Terms.{Terms}
use Rattle.svc_types.specs.declared.account.Entry.{Entry}
use Rattle.svc_types.specs.declared.account.Event.{Event}
use Rattle.svc_types.specs.Terms.{IsSound}
use Rattle.svc_types.proofs.OrderLemmas.{pairs_head, pairs_tail}
use Rattle.svc_spec.specs.Events.{month_mark, late_day, late_mark, late_marks_from, up_to, event_of, entry_events, by_day, events_to}
use Rattle.svc_spec.proofs.SettlingLemmas.{from_nat_le}
use Rattle.svc_spec.proofs.EventLemmas.{by_day_first, months_since, lates_since, late_day_rises, up_to_none, up_to_more}
use Rattle.svc_replay.specs.Left.{months_left, lates_left, entries_left, left, next_late}

-- ---- the day of the next late mark

pub next_few : (t : Terms) (k d : ℕ) → next_late t k ≡ Some d → k < t.term
next_few t k d h =
    elim (nat_lt k t.term) as (λ v. nat_lt k t.term ≡ v → next_late t k ≡ Some d → k < t.term) [
      | true ↦ λ e g. grind (arith, nat_tests)
      | false ↦ λ e g. let none : None ≡ Some d = rw e at g in absurd (cc)
    ] refl h

pub next_is : (t : Terms) (k d : ℕ) → next_late t k ≡ Some d → d ≡ late_day t (k + 1)
next_is t k d h =
    elim (nat_lt k t.term) as (λ v. nat_lt k t.term ≡ v → next_late t k ≡ Some d → d ≡ late_day t (k + 1)) [
      | true ↦ λ e g. sym (same_Some (late_day t (k + 1)) d (rw e at g))
      | false ↦ λ e g. let none : None ≡ Some d = rw e at g in absurd (cc)
    ] refl h

pub at_least : (o : Option ℕ) (x : ℕ) → IfSome o (λ d. x < d) → IfSome o (λ d. x ≤ d)
at_least None x h = tt
at_least (Some d) x h = omega arith

-- ---- month marks

pub month_none : (m d : ℕ) → month_of d ≤ m → months_left m d ≡ []
month_none m d h = let none : month_of d - m ≡ 0 = omega arith in rw none

-- those that are left are not before the first one
pub months_from : (m d x : ℕ) → x ≤ first_day (m + 1) → All (λ e. x ≤ e.day) (months_left m d)
months_from m d x le = months_since (m + 1) (month_of d - m) x le

month_first : (m d : ℕ) → m < month_of d → months_left m d ≡ month_mark (m + 1) ∷ months_left (m + 1) d
month_first m d h =
    let more : month_of d - m ≡ suc (month_of d - (m + 1)) = omega arith in
    rw more

-- ---- late marks

lates_none : (t : Terms) (k d : ℕ) → t.term ≤ k → lates_left t k d ≡ []
lates_none t k d h = let none : t.term - k ≡ 0 = omega arith in rw none

-- those that are left are not before the next one
pub lates_from : (t : Terms) (k d x : ℕ) → IsSound t → IfSome (next_late t k) (λ late. x ≤ late) → All (λ e. x ≤ e.day) (lates_left t k d)
lates_from t k d x s h =
    elim (nat_lt k t.term) as (λ v. nat_lt k t.term ≡ v → IfSome (if v then Some (late_day t (k + 1)) else None) (λ late. x ≤ late) → All (λ e. x ≤ e.day) (lates_left t k d)) [
      | true ↦ λ e g.
          let P : Event → Type 0 = λ y. x ≤ y.day in
          All-filter (λ y. nat_le y.day d) P (late_marks_from t (k + 1) (t.term - k)) (lates_since t (k + 1) (t.term - k) x s (omega arith) g)
      | false ↦ λ e g. let few : t.term ≤ k = grind (arith, nat_tests) in rw (lates_none t k d few) (λ i y lt. absurd (omega arith))
    ] refl h

late_first : (t : Terms) (k d late : ℕ) → IsSound t → next_late t k ≡ Some late → late ≤ d → lates_left t k d ≡ late_mark t (k + 1) ∷ lates_left t (k + 1) d
late_first t k d late s is low =
    let few = next_few t k late is in
    let same = next_is t k late is in
    let more : t.term - k ≡ suc (t.term - (k + 1)) = omega arith in
    rw more (up_to_more d (late_mark t (k + 1)) (late_marks_from t (k + 1 + 1) (t.term - (k + 1))) (rw same at low))

-- the others are not before the next one
lates_rise : (t : Terms) (k d late : ℕ) → IsSound t → next_late t k ≡ Some late → All (λ e. late ≤ e.day) (lates_left t (k + 1) d)
lates_rise t k d late s is =
    let same = next_is t k late is in
    let rises = late_day_rises t (k + 1) s (omega arith) in
    let P : Event → Type 0 = λ y. late ≤ y.day in
    All-filter (λ y. nat_le y.day d) P (late_marks_from t (k + 1 + 1) (t.term - (k + 1))) (lates_since t (k + 1 + 1) (t.term - (k + 1)) late s (omega arith) (omega (arith, rises, same)))

-- ---- entries

-- no entry from one on is earlier than it
ordered_from : (live : List Entry) (i : ℕ) (e : Entry) → AllPairs (λ a b. a.day ≤ b.day) live → i < length live → e ≡ get_or live i e → All (λ y. e.day ≤ y.day) (drop i live)
ordered_from [] i e h lt is = absurd (omega arith)
ordered_from (x ∷ xs) zero e h lt is = rw is (All-cons (λ y. x.day ≤ y.day) x xs (omega arith) (pairs_head (λ a b. a.day ≤ b.day) x xs h))
ordered_from (x ∷ xs) (suc i) e h lt is = ordered_from xs i e (pairs_tail (λ a b. a.day ≤ b.day) x xs h) (omega arith) is

drop_first : (live : List Entry) (i : ℕ) (e : Entry) → i < length live → e ≡ get_or live i e → drop i live ≡ e ∷ drop (i + 1) live
drop_first live i e lt is =
    let one : i + 1 ≡ suc i = omega arith in
    rw (one, drop-cons live i e lt) (ap (λ x. x ∷ drop (suc i) live) (sym is))

drop_none : (live : List Entry) (i : ℕ) → length live ≤ i → drop i live ≡ []
drop_none [] zero le = refl
drop_none [] (suc i) le = refl
drop_none (x ∷ xs) zero le = absurd (omega arith)
drop_none (x ∷ xs) (suc i) le = drop_none xs i (omega arith)

pub entries_end : (live : List Entry) (i d : ℕ) → length live ≤ i → entries_left live i d ≡ []
entries_end live i d le = ap (λ xs. up_to d (map event_of xs)) (drop_none live i le)

pub entries_past : (live : List Entry) (i d : ℕ) (e : Entry) → AllPairs (λ a b. a.day ≤ b.day) live → i < length live → e ≡ get_or live i e → d < e.day → entries_left live i d ≡ []
entries_past live i d e h lt is past =
    let all = ordered_from live i e h lt is in
    up_to_none d (map event_of (drop i live)) (All-map (λ y. d < y.day) event_of (drop i live) (λ k x within. let more = all k x within in omega arith))

entry_first : (live : List Entry) (i d : ℕ) (e : Entry) → i < length live → e ≡ get_or live i e → e.day ≤ d → entries_left live i d ≡ event_of e ∷ entries_left live (i + 1) d
entry_first live i d e lt is low =
    ap (λ xs. up_to d (map event_of xs)) (drop_first live i e lt is) ∙ up_to_more d (event_of e) (map event_of (drop (i + 1) live)) low

-- the first of them is on a day or after it, where there is one up to d
pub entries_from : (live : List Entry) (i d x : ℕ) → AllPairs (λ a b. a.day ≤ b.day) live → (i < length live → (e : Entry) → get_or live i e ≡ e → x ≡ min e.day d) → All (λ e. x ≤ e.day) (entries_left live i d)
entries_from [] zero d x h first = λ k y lt. absurd (omega arith)
entries_from [] (suc i) d x h first = λ k y lt. absurd (omega arith)
entries_from (e ∷ es) zero d x h first =
    let P : Event → Type 0 = λ y. x ≤ y.day in
    let at = first (omega arith) e refl in
    let all = ordered_from (e ∷ es) 0 e h (omega arith) refl in
    All-filter (λ y. nat_le y.day d) P (map event_of (e ∷ es)) (All-map P event_of (e ∷ es) (λ k y within. let more = all k y within in omega arith))
entries_from (e ∷ es) (suc i) d x h first = entries_from es i d x (pairs_tail (λ a b. a.day ≤ b.day) e es h) (λ lt y is. first (omega arith) y is)

-- ---- all of them

-- a month mark comes first that no late mark and no entry is before
pub month_leads : (t : Terms) (live : List Entry) (d m k i x : ℕ) → IsSound t → m < month_of x → x ≤ d → IfSome (next_late t k) (λ late. first_day (m + 1) ≤ late) → All (λ e. x ≤ e.day) (entries_left live i d) → left t live d m k i ≡ month_mark (m + 1) ∷ left t live d (m + 1) k i
unfolding left
month_leads t live d m k i x s lt le next entries =
    let e = month_mark (m + 1) in
    let P : Event → Type 0 = λ y. e.day ≤ y.day in
    let ms = months_left (m + 1) d in
    let ls = lates_left t k d in
    let es = entries_left live i d in
    let later : All P es = λ n y within. (let more = entries n y within in omega arith) in
    let back = All-append P (ms ++ ls) es (All-append P ms ls (months_from (m + 1) d e.day (omega arith)) (lates_from t k d e.day s next)) later in
    ap (λ xs. by_day (xs ++ ls ++ es)) (month_first m d (omega arith)) ∙ by_day_first e [] (ms ++ ls ++ es) (λ n y none. absurd (omega arith)) back

-- a late mark comes first that is before the next month mark, and not after an entry
pub late_leads : (t : Terms) (live : List Entry) (d m k i x late : ℕ) → IsSound t → next_late t k ≡ Some late → late ≤ x → x ≤ d → late < first_day (m + 1) → All (λ e. x ≤ e.day) (entries_left live i d) → left t live d m k i ≡ late_mark t (k + 1) ∷ left t live d m (k + 1) i
unfolding left
late_leads t live d m k i x late s is low le before entries =
    let e = late_mark t (k + 1) in
    let P : Event → Type 0 = λ y. e.day ≤ y.day in
    let same = next_is t k late is in
    let ms = months_left m d in
    let ls = lates_left t (k + 1) d in
    let es = entries_left live i d in
    let front : All (λ y. e.day < y.day) ms = months_from m d (suc e.day) (omega arith) in
    let rise : All P ls = λ n y within. (let more = lates_rise t k d late s is n y within in omega arith) in
    let later : All P es = λ n y within. (let more = entries n y within in omega arith) in
    ap (λ xs. by_day (ms ++ xs ++ es)) (late_first t k d late s is (omega arith))
    ∙ ap by_day (append_assoc ms (e ∷ ls) es)
    ∙ by_day_first e ms (ls ++ es) front (All-append P ls es rise later)
    ∙ ap (λ xs. e ∷ by_day xs) (sym (append_assoc ms ls es))

-- an entry comes first that is before all marks
pub entry_leads : (t : Terms) (live : List Entry) (d m k i : ℕ) (e : Entry) → IsSound t → AllPairs (λ a b. a.day ≤ b.day) live → e.day < first_day (m + 1) → IfSome (next_late t k) (λ late. suc e.day ≤ late) → i < length live → e ≡ get_or live i e → e.day ≤ d → left t live d m k i ≡ event_of e ∷ left t live d m k (i + 1)
unfolding left
entry_leads t live d m k i e s h month next lt is low =
    let P : Event → Type 0 = λ y. e.day ≤ y.day in
    let Q : Event → Type 0 = λ y. e.day < y.day in
    let ms = months_left m d in
    let ls = lates_left t k d in
    let es = entries_left live (i + 1) d in
    let front = All-append Q ms ls (months_from m d (suc e.day) (omega arith)) (lates_from t k d (suc e.day) s next) in
    let all = ordered_from live i e h lt is in
    let rest : All P es = entries_rest (drop (i + 1) live) (All-tail (λ y. e.day ≤ y.day) e (drop (i + 1) live) (rw (drop_first live i e lt is) at all)) in
    ap (λ xs. by_day (ms ++ ls ++ xs)) (entry_first live i d e lt is low) ∙ by_day_first (event_of e) (ms ++ ls) es front rest
  where
    entries_rest : (xs : List Entry) → All (λ y. e.day ≤ y.day) xs → All (λ y. e.day ≤ y.day) (entry_events xs d)
    entries_rest xs h =
        let P : Event → Type 0 = λ y. e.day ≤ y.day in
        All-filter (λ y. nat_le y.day d) P (map event_of xs) (All-map P event_of xs h)

-- nothing is left where all marks are past the day, and no entry is left
pub none_leads : (t : Terms) (live : List Entry) (d m k i : ℕ) → IsSound t → d < first_day (m + 1) → IfSome (next_late t k) (λ late. suc d ≤ late) → entries_left live i d ≡ [] → left t live d m k i ≡ []
unfolding left
none_leads t live d m k i s month next entries =
    let months = month_none m d (omega arith) in
    let lates : lates_left t k d ≡ [] = none_by d (late_marks_from t (k + 1) (t.term - k)) (lates_from t k d (suc d) s next) in
    rw (months, lates, entries)
  where
    none_by : (d : ℕ) (xs : List Event) → All (λ e. suc d ≤ e.day) (up_to d xs) → up_to d xs ≡ []
    none_by d [] h = refl
    none_by d (x ∷ xs) h =
        elim (nat_le x.day d) as (λ v. nat_le x.day d ≡ v → All (λ e. suc d ≤ e.day) (cond v (x ∷ up_to d xs) (up_to d xs)) → cond v (x ∷ up_to d xs) (up_to d xs) ≡ []) [
          | true ↦ λ e g. let first = All-head (λ e. suc d ≤ e.day) x (up_to d xs) g in let le = from_nat_le x.day d e in absurd (omega arith)
          | false ↦ λ e g. none_by d xs g
        ] refl h

-- ---- before all of them

pub left_start : (t : Terms) (live : List Entry) (d : ℕ) → left t live d (month_of t.boarded) 0 0 ≡ events_to t live d
unfolding left events_to
left_start t live d = let all : t.term - 0 ≡ t.term = omega arith in rw all
