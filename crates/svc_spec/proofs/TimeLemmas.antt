-- What happens up to a day happens first: the books of a later day go on from those of an earlier.
use Rattle.std.proofs.Common.{◌≡◌, ℕ, zero, suc, ◌+◌, ◌-◌, ◌≤◌, ◌<◌, Bool, true, false, cond, List, [], ◌∷◌, ◌++◌, map, arith, refl, sym, ap, ◌∙◌}
use Rattle.std.specs.Prelude.{nat_le, not, min, if◌then◌else◌}
use Rattle.std.specs.List.{All, filter}
use Rattle.std.proofs.lemmas.List.Elements.{All-cons, All-head, All-tail, All-filter}
use Rattle.svc_base.specs.Calendar.{month_of, first_day}
use Rattle.svc_types.specs.declared.terms.Terms.{Terms}
use Rattle.svc_types.specs.declared.books.Books.{Books}
use Rattle.svc_types.specs.declared.account.Entry.{Entry}
use Rattle.svc_types.specs.declared.account.Event.{Event}
use Rattle.svc_spec.specs.Step.{step}
use Rattle.svc_spec.specs.Events.{month_mark, month_marks_from, month_marks, late_marks_from, late_marks, up_to, event_of, entry_events, insert_event, by_day, events_to, folded}
use Rattle.svc_spec.proofs.SettlingLemmas.{nat_le-true, nat_le-false, from_nat_le, from_not_nat_le}
use Rattle.svc_spec.proofs.EventLemmas.{AreInTurn, by_day_turn, up_to_none}

-- ---- events by day, up to a day

turn_since : (d : ℕ) (xs : List Event) → AreInTurn d xs → All (λ x. d ≤ x.day) xs
turn_since d [] h = λ k x lt. absurd (omega arith)
turn_since d (x ∷ xs) h =
    let rest = turn_since x.day xs h.1 in
    let first = h.0 in
    All-cons (λ y. d ≤ y.day) x xs first (λ k y lt. let later = rest k y lt in omega arith)

insert_before : (e : Event) (xs : List Event) → All (λ x. e.day ≤ x.day) xs → insert_event e xs ≡ e ∷ xs
insert_before e [] h = refl
insert_before e (x ∷ xs) h = rw (nat_le-true e.day x.day (All-head (λ x. e.day ≤ x.day) x xs h))

-- one more event among those up to a day, where it is
abbrev pub inserted_if : Bool → Event → List Event → List Event
inserted_if early e xs = if early then insert_event e xs else xs

up_to_insert : (d n : ℕ) (e : Event) (xs : List Event) → AreInTurn n xs → up_to d (insert_event e xs) ≡ inserted_if (nat_le e.day d) e (up_to d xs)
up_to_insert d n e [] h = elim (nat_le e.day d) as (λ v. cond v (e ∷ []) [] ≡ inserted_if v e []) [ true ↦ refl | false ↦ refl ]
up_to_insert d n e (x ∷ xs) h =
    elim (nat_le e.day x.day) as (λ v. nat_le e.day x.day ≡ v → up_to d (if v then e ∷ x ∷ xs else x ∷ insert_event e xs) ≡ inserted_if (nat_le e.day d) e (up_to d (x ∷ xs))) [
      | true ↦ λ le.
          let early = from_nat_le e.day x.day le in
          let since = turn_since x.day xs h.1 in
          let all : All (λ y. e.day ≤ y.day) (x ∷ xs) = All-cons (λ y. e.day ≤ y.day) x xs early (λ k y lt. let later = since k y lt in omega arith) in
          let first = insert_before e (up_to d (x ∷ xs)) (All-filter (λ y. nat_le y.day d) (λ y. e.day ≤ y.day) (x ∷ xs) all) in
          elim (nat_le e.day d) as (λ v. cond v (e ∷ up_to d (x ∷ xs)) (up_to d (x ∷ xs)) ≡ inserted_if v e (up_to d (x ∷ xs))) [ true ↦ sym first | false ↦ refl ]
      | false ↦ λ gt.
          let same = up_to_insert d x.day e xs h.1 in
          elim (nat_le x.day d) as (λ v. cond v (x ∷ up_to d (insert_event e xs)) (up_to d (insert_event e xs)) ≡ inserted_if (nat_le e.day d) e (cond v (x ∷ up_to d xs) (up_to d xs))) [
            | true ↦ ap (λ ys. x ∷ ys) same ∙ (elim (nat_le e.day d) as (λ w. x ∷ inserted_if w e (up_to d xs) ≡ inserted_if w e (x ∷ up_to d xs)) [ true ↦ rw gt | false ↦ refl ])
            | false ↦ same
          ]
    ] refl

all_any : (xs : List Event) → All (λ x. 0 ≤ x.day) xs
all_any xs k x lt = omega arith

up_to_by_day : (d : ℕ) (xs : List Event) → up_to d (by_day xs) ≡ by_day (up_to d xs)
up_to_by_day d [] = refl
up_to_by_day d (x ∷ xs) =
    up_to_insert d 0 x (by_day xs) (by_day_turn 0 xs (all_any xs))
    ∙ ap (inserted_if (nat_le x.day d) x) (up_to_by_day d xs)
    ∙ (elim (nat_le x.day d) as (λ v. inserted_if v x (by_day (up_to d xs)) ≡ by_day (cond v (x ∷ up_to d xs) (up_to d xs))) [ true ↦ refl | false ↦ refl ])

up_to_append : (d : ℕ) (xs ys : List Event) → up_to d (xs ++ ys) ≡ up_to d xs ++ up_to d ys
up_to_append d [] ys = refl
up_to_append d (x ∷ xs) ys =
    elim (nat_le x.day d) as (λ v. cond v (x ∷ up_to d (xs ++ ys)) (up_to d (xs ++ ys)) ≡ cond v (x ∷ up_to d xs) (up_to d xs) ++ up_to d ys) [
      | true ↦ ap (λ zs. x ∷ zs) (up_to_append d xs ys)
      | false ↦ up_to_append d xs ys
    ]

up_to_twice : (d d' : ℕ) (xs : List Event) → d ≤ d' → up_to d (up_to d' xs) ≡ up_to d xs
up_to_twice d d' [] le = refl
up_to_twice d d' (x ∷ xs) le =
    let rest = up_to_twice d d' xs le in
    elim (nat_le x.day d') as (λ v. nat_le x.day d' ≡ v → up_to d (cond v (x ∷ up_to d' xs) (up_to d' xs)) ≡ cond (nat_le x.day d) (x ∷ up_to d xs) (up_to d xs)) [
      | true ↦ λ e. elim (nat_le x.day d) as (λ w. cond w (x ∷ up_to d (up_to d' xs)) (up_to d (up_to d' xs)) ≡ cond w (x ∷ up_to d xs) (up_to d xs)) [ true ↦ ap (λ ys. x ∷ ys) rest | false ↦ rest ]
      | false ↦ λ e. let past = from_not_nat_le x.day d' e in let off : nat_le x.day d ≡ false = nat_le-false x.day d (omega arith) in rw off rest
    ] refl

-- the month marks up to a day are those of the months up to its month
up_to_months : (d m n : ℕ) → up_to d (month_marks_from m n) ≡ month_marks_from m (min n (month_of d + 1 - m))
up_to_months d m zero = let none : min zero (month_of d + 1 - m) ≡ zero = omega arith in rw none
up_to_months d m (suc n) =
    let rest = up_to_months d (m + 1) n in
    elim (nat_le (first_day m) d) as (λ v. nat_le (first_day m) d ≡ v → cond v (month_mark m ∷ up_to d (month_marks_from (m + 1) n)) (up_to d (month_marks_from (m + 1) n)) ≡ month_marks_from m (min (suc n) (month_of d + 1 - m))) [
      | true ↦ λ e.
          let early = from_nat_le (first_day m) d e in
          let more : min (suc n) (month_of d + 1 - m) ≡ suc (min n (month_of d + 1 - (m + 1))) = omega arith in
          rw (more, rest)
      | false ↦ λ e.
          let past = from_not_nat_le (first_day m) d e in
          let none : min (suc n) (month_of d + 1 - m) ≡ zero = omega arith in
          let none' : min n (month_of d + 1 - (m + 1)) ≡ zero = omega arith in
          rw (none, rest, none')
    ] refl

-- of the events up to a day, those up to an earlier one are all events up to it
pub events_up_to : (t : Terms) (live : List Entry) (d d' : ℕ) → d ≤ d' → up_to d (events_to t live d') ≡ events_to t live d
unfolding events_to
events_up_to t live d d' le =
    let months = month_marks t d' in
    let lates = late_marks t d' in
    let entries = entry_events live d' in
    let count : min (month_of d' - month_of t.boarded) (month_of d + 1 - (month_of t.boarded + 1)) ≡ month_of d - month_of t.boarded = omega arith in
    let a : up_to d months ≡ month_marks t d = up_to_months d (month_of t.boarded + 1) (month_of d' - month_of t.boarded) ∙ ap (month_marks_from (month_of t.boarded + 1)) count in
    let b : up_to d lates ≡ late_marks t d = up_to_twice d d' (late_marks_from t 1 t.term) le in
    let c : up_to d entries ≡ entry_events live d = up_to_twice d d' (map event_of live) le in
    up_to_by_day d (months ++ lates ++ entries)
    ∙ ap by_day (up_to_append d (months ++ lates) entries ∙ ap (λ xs. xs ++ up_to d entries) (up_to_append d months lates))
    ∙ rw (a, b, c)

-- the events past a day
abbrev pub past : ℕ → List Event → List Event
past d = filter (λ e. not (nat_le e.day d))

pub past_all : (d : ℕ) (xs : List Event) → All (λ x. d < x.day) xs → past d xs ≡ xs
past_all d [] h = refl
past_all d (x ∷ xs) h = rw (nat_le-false x.day d (All-head (λ x. d < x.day) x xs h)) (ap (λ ys. x ∷ ys) (past_all d xs (All-tail (λ x. d < x.day) x xs h)))

-- events in turn are those up to a day, then those past it
pub in_two : (d n : ℕ) (xs : List Event) → AreInTurn n xs → xs ≡ up_to d xs ++ past d xs
in_two d n [] h = refl
in_two d n (x ∷ xs) h =
    elim (nat_le x.day d) as (λ v. nat_le x.day d ≡ v → x ∷ xs ≡ cond v (x ∷ up_to d xs) (up_to d xs) ++ cond (not v) (x ∷ past d xs) (past d xs)) [
      | true ↦ λ e. ap (λ ys. x ∷ ys) (in_two d x.day xs h.1)
      | false ↦ λ e.
          let after = from_not_nat_le x.day d e in
          let since = turn_since x.day xs h.1 in
          let all : All (λ y. d < y.day) xs = λ k y lt. let later = since k y lt in omega arith in
          let none = up_to_none d xs all in
          let same = past_all d xs all in
          rw (none, same)
    ] refl

events_turned : (t : Terms) (live : List Entry) (d d' : ℕ) → events_to t live d' ≡ up_to d (events_to t live d') ++ past d (events_to t live d')
unfolding events_to
events_turned t live d d' = let all = month_marks t d' ++ late_marks t d' ++ entry_events live d' in in_two d 0 (by_day all) (by_day_turn 0 all (all_any all))

-- all events up to a day are those up to an earlier one, and those past it
pub events_go_on : (t : Terms) (live : List Entry) (d d' : ℕ) → d ≤ d' → events_to t live d' ≡ events_to t live d ++ past d (events_to t live d')
events_go_on t live d d' le = events_turned t live d d' ∙ ap (λ xs. xs ++ past d (events_to t live d')) (events_up_to t live d d' le)

pub folded_on : (t : Terms) (b : Books) (xs ys : List Event) → folded t b (xs ++ ys) ≡ folded t (folded t b xs) ys
folded_on t b [] ys = refl
folded_on t b (x ∷ xs) ys = folded_on t (step t x b) xs ys
