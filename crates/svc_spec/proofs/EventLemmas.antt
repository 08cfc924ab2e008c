-- The order of a loan's events, and that each of them can be folded in its turn.
use Rattle.std.proofs.Common.{◌≡◌, ℕ, zero, suc, ◌+◌, ◌-◌, ◌≤◌, ◌<◌, true, false, cond, List, [], ◌∷◌, ◌++◌, length, map, arith, refl, inl, inr, subst}
use Rattle.std.specs.Prelude.{nat_le, if◌then◌else◌}
use Rattle.std.specs.List.{All}
use Rattle.std.proofs.lemmas.List.Elements.{All-cons, All-head, All-tail, All-append, All-map, All-filter}
use Rattle.std.proofs.lemmas.Int.{ints}
use Rattle.svc_base.specs.Calendar.{month_of, first_day, day_after}
use Rattle.svc_base.specs.DayLemmas.{month_length_least}
use Rattle.svc_base.proofs.CalendarLemmas.{after_first, day_after_least}
use Rattle.svc_types.specs.declared.terms.Terms.{Terms}
use Rattle.svc_types.specs.declared.books.Books.{Books}
use Rattle.svc_types.specs.declared.account.Entry.{Entry}
use Rattle.svc_types.specs.declared.account.Event.{Event}
use Rattle.svc_types.specs.Terms.{IsSound}
use Rattle.svc_spec.specs.Installments.{due_month, due_day}
use Rattle.svc_spec.specs.Step.{step}
use Rattle.svc_spec.specs.Books.{AreWithin, AreBooks, IsWhat, start}
use Rattle.svc_spec.specs.Entries.{AreEntries}
use Rattle.svc_spec.specs.Events.{month_mark, month_marks_from, month_marks, late_day, late_mark, late_marks_from, late_marks, up_to, event_of, entry_events, insert_event, by_day, events_to, folded}
use Rattle.svc_spec.proofs.SettlingLemmas.{nat_le-true, nat_le-false, from_nat_le, from_not_nat_le}
use Rattle.svc_spec.proofs.WholeStep.{step_books, start_books}
use Rattle.svc_spec.proofs.LimitLemmas.{weight, AreBounded, step_bounded, step_signs, bounded_within, start_bounded}

-- ---- the order by day

pub insert_all : (P : Event → Type 0) (e : Event) (xs : List Event) → P e → All P xs → All P (insert_event e xs)
insert_all P e [] p h = All-cons P e [] p h
insert_all P e (x ∷ xs) p h =
    elim (nat_le e.day x.day) as (λ v. All P (if v then e ∷ x ∷ xs else x ∷ insert_event e xs)) [
      | true ↦ All-cons P e (x ∷ xs) p h
      | false ↦ All-cons P x (insert_event e xs) (All-head P x xs h) (insert_all P e xs p (All-tail P x xs h))
    ]

-- what holds of all events holds of them by day
pub by_day_all : (P : Event → Type 0) (xs : List Event) → All P xs → All P (by_day xs)
by_day_all P [] h = h
by_day_all P (x ∷ xs) h = insert_all P x (by_day xs) (All-head P x xs h) (by_day_all P xs (All-tail P x xs h))

insert_first : (e : Event) (xs : List Event) → All (λ x. e.day ≤ x.day) xs → insert_event e xs ≡ e ∷ xs
insert_first e [] h = refl
insert_first e (x ∷ xs) h = rw (nat_le-true e.day x.day (All-head (λ x. e.day ≤ x.day) x xs h))

-- an event that no earlier one stands after, and only later ones before, is the first by day
pub by_day_first : (e : Event) (front back : List Event) → All (λ x. e.day < x.day) front → All (λ x. e.day ≤ x.day) back → by_day (front ++ e ∷ back) ≡ e ∷ by_day (front ++ back)
by_day_first e [] back later h = insert_first e (by_day back) (by_day_all (λ x. e.day ≤ x.day) back h)
by_day_first e (f ∷ front) back later h =
    let rest = by_day_first e front back (All-tail (λ x. e.day < x.day) f front later) h in
    let past : nat_le f.day e.day ≡ false = nat_le-false f.day e.day (All-head (λ x. e.day < x.day) f front later) in
    rw (rest, past)

-- events that stand by day, none of them before a day
abbrev pub AreInTurn : ℕ → List Event → Type 0
AreInTurn d [] = Unit {0}
AreInTurn d (e ∷ es) = (d ≤ e.day) × AreInTurn e.day es

insert_turn : (d : ℕ) (e : Event) (xs : List Event) → d ≤ e.day → AreInTurn d xs → AreInTurn d (insert_event e xs)
insert_turn d e [] late h = (late, tt)
insert_turn d e (x ∷ xs) late h =
    elim (nat_le e.day x.day) as (λ v. nat_le e.day x.day ≡ v → AreInTurn d (if v then e ∷ x ∷ xs else x ∷ insert_event e xs)) [
      | true ↦ λ p. (late, (from_nat_le e.day x.day p, h.1))
      | false ↦ λ p. let later = from_not_nat_le e.day x.day p in (h.0, insert_turn x.day e xs (omega arith) h.1)
    ] refl

pub by_day_turn : (d : ℕ) (xs : List Event) → All (λ x. d ≤ x.day) xs → AreInTurn d (by_day xs)
by_day_turn d [] h = tt
by_day_turn d (x ∷ xs) h = insert_turn d x (by_day xs) (All-head (λ x. d ≤ x.day) x xs h) (by_day_turn d xs (All-tail (λ x. d ≤ x.day) x xs h))

-- ---- what the events can add up to

-- the units of some events
abbrev pub weights : List Event → ℕ
weights [] = 0
weights (e ∷ es) = weight e.what + weights es

weights_append : (xs ys : List Event) → weights (xs ++ ys) ≡ weights xs + weights ys
weights_append [] ys = omega arith
weights_append (x ∷ xs) ys = omega (arith, weights_append xs ys)

insert_weights : (e : Event) (xs : List Event) → weights (insert_event e xs) ≡ weight e.what + weights xs
insert_weights e [] = refl
insert_weights e (x ∷ xs) =
    elim (nat_le e.day x.day) as (λ v. weights (if v then e ∷ x ∷ xs else x ∷ insert_event e xs) ≡ weight e.what + (weight x.what + weights xs)) [
      | true ↦ refl
      | false ↦ omega (arith, insert_weights e xs)
    ]

by_day_weights : (xs : List Event) → weights (by_day xs) ≡ weights xs
by_day_weights [] = refl
by_day_weights (x ∷ xs) = omega (arith, insert_weights x (by_day xs), by_day_weights xs)

up_to_weights : (d : ℕ) (xs : List Event) → weights (up_to d xs) ≤ weights xs
up_to_weights d [] = omega arith
up_to_weights d (x ∷ xs) =
    elim (nat_le x.day d) as (λ v. weights (cond v (x ∷ up_to d xs) (up_to d xs)) ≤ weight x.what + weights xs) [
      | true ↦ omega (arith, up_to_weights d xs)
      | false ↦ omega (arith, up_to_weights d xs)
    ]

months_weights : (m n : ℕ) → weights (month_marks_from m n) ≡ 0
months_weights m zero = refl
months_weights m (suc n) = omega (arith, months_weights (m + 1) n)

lates_weights : (t : Terms) (k n : ℕ) → weights (late_marks_from t k n) ≡ n
lates_weights t k zero = refl
lates_weights t k (suc n) = omega (arith, lates_weights t (k + 1) n)

entries_weights : (live : List Entry) → weights (map event_of live) ≡ length live
entries_weights [] = refl
entries_weights (e ∷ es) = omega (arith, entries_weights es)

-- at most one unit for each installment and each entry
events_weights : (t : Terms) (live : List Entry) (d : ℕ) → weights (events_to t live d) ≤ t.term + length live
unfolding events_to
events_weights t live d =
    let months = month_marks t d in
    let lates = late_marks t d in
    let entries = entry_events live d in
    omega (arith, by_day_weights (months ++ lates ++ entries), weights_append (months ++ lates) entries, weights_append months lates, months_weights (month_of t.boarded + 1) (month_of d - month_of t.boarded), up_to_weights d (late_marks_from t 1 t.term), lates_weights t 1 t.term, up_to_weights d (map event_of live), entries_weights live)

-- ---- the days of the marks

pub months_since : (m n x : ℕ) → x ≤ first_day m → All (λ e. x ≤ e.day) (month_marks_from m n)
months_since m zero x h = λ k d lt. absurd (omega arith)
months_since m (suc n) x h = All-cons (λ e. x ≤ e.day) (month_mark m) (month_marks_from (m + 1) n) h (months_since (m + 1) n x (omega arith))

-- up to 29 days after the first day of a month are not past the like of the next month
late_step : (m n : ℕ) → n ≤ 29 → day_after (first_day m) n ≤ day_after (first_day (m + 1)) n
late_step m n few =
    let least' = month_length_least (m + 1) in
    let next = day_after_least (first_day (m + 1)) n in
    elim (after_first m n few) as (λ either. day_after (first_day m) n ≤ day_after (first_day (m + 1)) n) [
      | inl h ↦ omega (arith, h.0, h.1)
      | inr h ↦ omega (arith, h.0, h.1)
    ]

pub late_day_rises : (t : Terms) (k : ℕ) → IsSound t → 1 ≤ k → late_day t k ≤ late_day t (k + 1)
late_day_rises t k s low =
    let grace = s.grace in
    let next : due_month t (k + 1) ≡ due_month t k + 1 = omega arith in
    rw next (late_step (due_month t k) (t.grace + 1) (omega arith))

pub lates_since : (t : Terms) (k n x : ℕ) → IsSound t → 1 ≤ k → x ≤ late_day t k → All (λ e. x ≤ e.day) (late_marks_from t k n)
lates_since t k zero x s low h = λ j d lt. absurd (omega arith)
lates_since t k (suc n) x s low h = All-cons (λ e. x ≤ e.day) (late_mark t k) (late_marks_from t (k + 1) n) h (lates_since t (k + 1) n x s (omega arith) (let rises = late_day_rises t k s low in omega arith))

-- nothing is up to a day where all is past it
pub up_to_none : (d : ℕ) (xs : List Event) → All (λ e. d < e.day) xs → up_to d xs ≡ []
up_to_none d [] h = refl
up_to_none d (x ∷ xs) h = rw (nat_le-false x.day d (All-head (λ e. d < e.day) x xs h)) (up_to_none d xs (All-tail (λ e. d < e.day) x xs h))

pub up_to_more : (d : ℕ) (x : Event) (xs : List Event) → x.day ≤ d → up_to d (x ∷ xs) ≡ x ∷ up_to d xs
up_to_more d x xs h = rw (nat_le-true x.day d h)

-- ---- folding

-- books that take some events, each in its turn
pub record CanFold (t : Terms) (b : Books) (es : List Event) : Type 0 where
  pub books : AreBooks t b
  pub turn : AreInTurn b.day es
  pub whats : All (λ e. IsWhat e.what) es
  pub room : weights es ≤ 4_600
  pub bounded : AreBounded (4_600 - weights es) b

-- the books after the first of them are within the limits
pub can_fold_within : (t : Terms) (b : Books) (e : Event) (es : List Event) → IsSound t → CanFold t b (e ∷ es) → AreWithin (step t e b)
can_fold_within t b e es s h =
    let a : IsWhat e.what = All-head (λ e. IsWhat e.what) e es h.whats in
    let room = h.room in
    bounded_within t (4_600 - weights (e ∷ es) + weight e.what) (step t e b) (omega arith) (step_signs t e b s a h.books.signs) (step_bounded t e (4_600 - weights (e ∷ es)) b s a h.books.signs h.bounded)

step_day : (t : Terms) (e : Event) (b : Books) → (step t e b).day ≡ e.day
unfolding step
step_day t e b = refl

-- and take the others
pub can_fold_step : (t : Terms) (b : Books) (e : Event) (es : List Event) → IsSound t → CanFold t b (e ∷ es) → CanFold t (step t e b) es
can_fold_step t b e es s h =
    let a : IsWhat e.what = All-head (λ e. IsWhat e.what) e es h.whats in
    let room = h.room in
    let same : 4_600 - weights (e ∷ es) + weight e.what ≡ 4_600 - weights es = omega arith in
    record {
      books = step_books t e b s a h.books (can_fold_within t b e es s h);
      turn = rw (step_day t e b) h.turn.1;
      whats = All-tail (λ e. IsWhat e.what) e es h.whats;
      room = omega arith;
      bounded = subst (λ n. AreBounded n (step t e b)) same (step_bounded t e (4_600 - weights (e ∷ es)) b s a h.books.signs h.bounded);
    }

-- the books after any first part of the events are books of the terms, and take the others
pub can_fold_part : (t : Terms) (b : Books) (front back : List Event) → IsSound t → CanFold t b (front ++ back) → CanFold t (folded t b front) back
can_fold_part t b [] back s h = h
can_fold_part t b (e ∷ front) back s h = can_fold_part t (step t e b) front back s (can_fold_step t b e (front ++ back) s h)

bounded_more : (n m : ℕ) (b : Books) → n ≤ m → AreBounded n b → AreBounded m b
bounded_more n m b le h =
    let escrow = h.backed.escrow in
    let owed = h.backed.late_owed in
    let all = h.total in
    record { backed = record { escrow = omega (arith, ints); fee = h.backed.fee; curtailed = h.backed.curtailed; late_owed = omega (arith, ints) }; total = omega (arith, ints) }

months_whats : (m n : ℕ) → All (λ e. IsWhat e.what) (month_marks_from m n)
months_whats m zero = λ k d lt. absurd (omega arith)
months_whats m (suc n) = All-cons (λ e. IsWhat e.what) (month_mark m) (month_marks_from (m + 1) n) tt (months_whats (m + 1) n)

lates_whats : (t : Terms) (k n : ℕ) → All (λ e. IsWhat e.what) (late_marks_from t k n)
lates_whats t k zero = λ j d lt. absurd (omega arith)
lates_whats t k (suc n) = All-cons (λ e. IsWhat e.what) (late_mark t k) (late_marks_from t (k + 1) n) tt (lates_whats t (k + 1) n)

-- what holds of all marks and entries holds of the events
pub events_all : (P : Event → Type 0) (t : Terms) (live : List Entry) (d : ℕ) → All P (month_marks t d) → All P (late_marks t d) → All P (entry_events live d) → All P (events_to t live d)
unfolding events_to
events_all P t live d months lates entries = by_day_all P (month_marks t d ++ late_marks t d ++ entry_events live d) (All-append P (month_marks t d ++ late_marks t d) (entry_events live d) (All-append P (month_marks t d) (late_marks t d) months lates) entries)

events_turn : (t : Terms) (live : List Entry) (d : ℕ) → IsSound t → AreEntries t live → AreInTurn t.boarded (events_to t live d)
unfolding events_to
events_turn t live d s h =
    let P : Event → Type 0 = λ x. t.boarded ≤ x.day in
    let first = s.first_low in
    let months : All P (month_marks t d) = months_since (month_of t.boarded + 1) (month_of d - month_of t.boarded) t.boarded (omega arith) in
    let due : t.boarded ≤ due_day t 1 = omega arith in
    let late : t.boarded ≤ late_day t 1 = omega (arith, day_after_least (due_day t 1) (t.grace + 1)) in
    let lates : All P (late_marks t d) = All-filter (λ e. nat_le e.day d) P (late_marks_from t 1 t.term) (lates_since t 1 t.term t.boarded s (omega arith) late) in
    let entries : All P (entry_events live d) = All-filter (λ e. nat_le e.day d) P (map event_of live) (All-map P event_of live h.since) in
    by_day_turn t.boarded (month_marks t d ++ late_marks t d ++ entry_events live d) (All-append P (month_marks t d ++ late_marks t d) (entry_events live d) (All-append P (month_marks t d) (late_marks t d) months lates) entries)

events_whats : (t : Terms) (live : List Entry) (d : ℕ) → AreEntries t live → All (λ e. IsWhat e.what) (events_to t live d)
events_whats t live d h =
    let P : Event → Type 0 = λ e. IsWhat e.what in
    events_all P t live d (months_whats (month_of t.boarded + 1) (month_of d - month_of t.boarded)) (All-filter (λ e. nat_le e.day d) P (late_marks_from t 1 t.term) (lates_whats t 1 t.term)) (All-filter (λ e. nat_le e.day d) P (map event_of live) (All-map P event_of live h.acts))

start_day : (t : Terms) → (start t).day ≡ t.boarded
unfolding start
start_day t = refl

pub start_next : (t : Terms) → (start t).next ≡ 1
unfolding start
start_next t = refl

-- the books at boarding take all events of up to 4,096 entries
pub can_fold_start : (t : Terms) (live : List Entry) (d : ℕ) → IsSound t → AreEntries t live → length live ≤ 4_096 → CanFold t (start t) (events_to t live d)
can_fold_start t live d s h few =
    let term = s.term_high in
    let room : weights (events_to t live d) ≤ 4_600 = omega (arith, events_weights t live d) in
    record {
      books = start_books t s;
      turn = rw (start_day t) (events_turn t live d s h);
      whats = events_whats t live d h;
      room = room;
      bounded = bounded_more 0 (4_600 - weights (events_to t live d)) (start t) (omega arith) (start_bounded t);
    }

-- the books after any first part of a loan's events are books of its terms, and take the others
pub can_fold_events : (t : Terms) (live : List Entry) (d : ℕ) (front back : List Event) → IsSound t → AreEntries t live → length live ≤ 4_096 → events_to t live d ≡ front ++ back → CanFold t (folded t (start t) front) back
can_fold_events t live d front back s h few e = can_fold_part t (start t) front back s (subst (CanFold t (start t)) e (can_fold_start t live d s h few))
