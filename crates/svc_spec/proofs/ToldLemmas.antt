-- The entries that a loan's history tells are its live entries, in their order.
use Rattle.std.proofs.Common.{◌≡◌, ℕ, zero, suc, ◌+◌, ◌-◌, ◌≤◌, ◌∷◌, [], ◌++◌, List, Bool, true, false, cond, map, arith, refl, sym, ap, ◌∙◌}
use Rattle.std.specs.Prelude.{Option, ◌||◌, nat_le, if◌then◌else◌}
use Rattle.std.specs.List.{All, AllPairs, filter}
use Rattle.std.proofs.lemmas.List.Elements.{All-cons, All-head, All-tail, All-append}
use Rattle.svc_base.specs.Calendar.{month_of}
use Rattle.svc_types.specs.declared.terms.Terms.{Terms}
use Rattle.svc_types.specs.declared.books.Books.{Books}
use Rattle.svc_types.specs.declared.account.Entry.{Entry}
use Rattle.svc_types.specs.declared.account.Event.{Event}
use Rattle.svc_types.specs.declared.account.What.{What}
use Rattle.svc_types.specs.declared.account.What.TheVariants as what
use Rattle.svc_types.proofs.OrderLemmas.{live_all, pairs_head, pairs_tail}
use Rattle.svc_spec.specs.Step.{step}
use Rattle.svc_spec.specs.Books.{start}
use Rattle.svc_spec.specs.Events.{month_mark, month_marks_from, month_marks, late_mark, late_marks_from, late_marks, up_to, event_of, entry_events, insert_event, by_day, events_to}
use Rattle.svc_spec.specs.Accounts.{Account, live_of, IsAccount}
use Rattle.svc_spec.specs.History.{Passed, passed, number_for, left_behind, is_entry, has_line, history_line, lines_of_passed, history_of}
use Rattle.svc_spec.specs.HistoryLaws.{with_entry, entries_told}
use Rattle.svc_spec.proofs.SettlingLemmas.{nat_le-true}
use Rattle.svc_spec.proofs.EventLemmas.{by_day_first}
use Rattle.svc_spec.proofs.AccountLemmas.{live_entries_fold}

-- ---- the events of entries among all events

abbrev acts : List Event → List Event
acts es = filter (λ e. is_entry e.what) es

abbrev AreMarks : List Event → Type 0
AreMarks es = All (λ e. is_entry e.what ≡ false) es

acts_mark : (e : Event) (xs : List Event) → is_entry e.what ≡ false → acts (e ∷ xs) ≡ acts xs
acts_mark e xs mark = rw mark

acts_insert : (e : Event) (xs : List Event) → is_entry e.what ≡ false → acts (insert_event e xs) ≡ acts xs
acts_insert e [] mark = acts_mark e [] mark
acts_insert e (x ∷ xs) mark =
    elim (nat_le e.day x.day) as (λ v. acts (if v then e ∷ x ∷ xs else x ∷ insert_event e xs) ≡ acts (x ∷ xs)) [
      | true ↦ acts_mark e (x ∷ xs) mark
      | false ↦ ap (λ ys. cond (is_entry x.what) (x ∷ ys) ys) (acts_insert e xs mark)
    ]

acts_by_day : (front back : List Event) → AreMarks front → acts (by_day (front ++ back)) ≡ acts (by_day back)
acts_by_day [] back h = refl
acts_by_day (e ∷ es) back h = acts_insert e (by_day (es ++ back)) (All-head (λ e. is_entry e.what ≡ false) e es h) ∙ acts_by_day es back (All-tail (λ e. is_entry e.what ≡ false) e es h)

months_marks : (m n : ℕ) → AreMarks (month_marks_from m n)
months_marks m zero = λ k d lt. absurd (omega arith)
months_marks m (suc n) = All-cons (λ e. is_entry e.what ≡ false) (month_mark m) (month_marks_from (m + 1) n) refl (months_marks (m + 1) n)

lates_marks : (t : Terms) (d k n : ℕ) → AreMarks (up_to d (late_marks_from t k n))
lates_marks t d k zero = λ j x lt. absurd (omega arith)
lates_marks t d k (suc n) =
    elim (nat_le (late_mark t k).day d) as (λ v. AreMarks (cond v (late_mark t k ∷ up_to d (late_marks_from t (k + 1) n)) (up_to d (late_marks_from t (k + 1) n)))) [
      | true ↦ All-cons (λ e. is_entry e.what ≡ false) (late_mark t k) (up_to d (late_marks_from t (k + 1) n)) refl (lates_marks t d (k + 1) n)
      | false ↦ lates_marks t d (k + 1) n
    ]

-- all entries are up to the day
all_entries : (live : List Entry) (d : ℕ) → All (λ e. e.day ≤ d) live → entry_events live d ≡ map event_of live
all_entries [] d h = refl
all_entries (e ∷ es) d h =
    let now : nat_le e.day d ≡ true = nat_le-true e.day d (All-head (λ x. x.day ≤ d) e es h) in
    rw now (ap (λ xs. event_of e ∷ xs) (all_entries es d (All-tail (λ x. x.day ≤ d) e es h)))

later_events : (n d : ℕ) (es : List Entry) → All (λ x. n ≤ x.day) es → All (λ x. n ≤ x.day) (entry_events es d)
later_events n d [] h = λ k x lt. absurd (omega arith)
later_events n d (e ∷ es) h =
    let rest = later_events n d es (All-tail (λ x. n ≤ x.day) e es h) in
    elim (nat_le e.day d) as (λ v. All (λ x. n ≤ x.day) (cond v (event_of e ∷ entry_events es d) (entry_events es d))) [
      | true ↦ All-cons (λ x. n ≤ x.day) (event_of e) (entry_events es d) (All-head (λ x. n ≤ x.day) e es h) rest
      | false ↦ rest
    ]

-- they stand by day
in_turn : (live : List Entry) (d : ℕ) → AllPairs (λ a b. a.day ≤ b.day) live → by_day (entry_events live d) ≡ entry_events live d
in_turn [] d h = refl
in_turn (e ∷ es) d h =
    let rest = in_turn es d (pairs_tail (λ a b. a.day ≤ b.day) e es h) in
    let first = by_day_first (event_of e) [] (entry_events es d) (λ k x lt. absurd (omega arith)) (later_events e.day d es (pairs_head (λ a b. a.day ≤ b.day) e es h)) in
    elim (nat_le e.day d) as (λ v. by_day (cond v (event_of e ∷ entry_events es d) (entry_events es d)) ≡ cond v (event_of e ∷ entry_events es d) (entry_events es d)) [
      | true ↦ first ∙ ap (λ xs. event_of e ∷ xs) rest
      | false ↦ rest
    ]

acts_entries : (live : List Entry) (d : ℕ) → acts (entry_events live d) ≡ entry_events live d
acts_entries [] d = refl
acts_entries (e ∷ es) d =
    elim (nat_le e.day d) as (λ v. acts (cond v (event_of e ∷ entry_events es d) (entry_events es d)) ≡ cond v (event_of e ∷ entry_events es d) (entry_events es d)) [
      | true ↦ ap (λ xs. event_of e ∷ xs) (acts_entries es d)
      | false ↦ acts_entries es d
    ]

pub acts_events : (t : Terms) (live : List Entry) (d : ℕ) → AllPairs (λ a b. a.day ≤ b.day) live → filter (λ e. is_entry e.what) (events_to t live d) ≡ entry_events live d
unfolding events_to
acts_events t live d order =
    let months = month_marks t d in
    let lates = late_marks t d in
    let marks : AreMarks (months ++ lates) = All-append (λ e. is_entry e.what ≡ false) months lates (months_marks (month_of t.boarded + 1) (month_of d - month_of t.boarded)) (lates_marks t d 1 t.term) in
    acts_by_day (months ++ lates) (entry_events live d) marks
    ∙ ap acts (in_turn live d order)
    ∙ acts_entries live d

-- ---- what the lines tell

mark_tells : (d : ℕ) (n : Option ℕ) (w : What) (es : List Entry) → is_entry w ≡ false → with_entry d n w es ≡ es
mark_tells d n what.MonthMark es h = refl
mark_tells d n (what.LateMark k) es h = refl
mark_tells d n (what.Act a) es h = absurd (cc)

not_shown : (x y z : Bool) → (x || y || z) ≡ false → x ≡ false
not_shown true y z h = absurd (cc)
not_shown false y z h = refl

line_tells : (t : Terms) (p : Passed) (ps : List Passed) → entries_told (lines_of_passed t (p ∷ ps)) ≡ with_entry p.event.day p.number p.event.what (entries_told (lines_of_passed t ps))
line_tells t p ps =
    elim (has_line p) as (λ v. has_line p ≡ v → entries_told (map (history_line t) (cond v (p ∷ filter has_line ps) (filter has_line ps))) ≡ with_entry p.event.day p.number p.event.what (entries_told (lines_of_passed t ps))) [
      | true ↦ λ shown. refl
      | false ↦ λ hidden. sym (mark_tells p.event.day p.number p.event.what (entries_told (lines_of_passed t ps)) (not_shown (is_entry p.event.what) _ _ hidden))
    ] refl

-- the first event names the first entry that is left, where it is one of an entry
next_tells : (R : List Entry → List Entry) (d : ℕ) (w : What) (es : List Event) (live : List Entry) → ((l : List Entry) → acts es ≡ map event_of l → R l ≡ l) → acts ((let e : Event = record { day = d; what = w } in e) ∷ es) ≡ map event_of live → with_entry d (number_for w live) w (R (left_behind w live)) ≡ live
next_tells R d what.MonthMark es live rest h = rest live h
next_tells R d (what.LateMark k) es live rest h = rest live h
next_tells R d (what.Act a) es [] rest h = absurd (cc)
next_tells R d (what.Act a) es (x ∷ xs) rest h =
    let all : acts es ≡ map event_of xs = cc in
    let e : Event = record { day = d; what = what.Act a } in
    let head : e ≡ event_of x = cc in
    let day : d ≡ x.day = ap (λ (y : Event). y.day) head in
    let same : what.Act a ≡ what.Act x.act = ap (λ (y : Event). y.what) head in
    let act : a ≡ x.act = cc in
    rw (rest xs all, day, act)

told : (t : Terms) (b : Books) (live : List Entry) (es : List Event) → acts es ≡ map event_of live → entries_told (lines_of_passed t (passed t b live es)) ≡ live
unfolding passed
told t b [] [] h = refl
told t b (x ∷ xs) [] h = absurd (cc)
told t b live (e ∷ es) h =
    line_tells t (record { event = e; number = number_for e.what live; before = b; after = step t e b }) (passed t (step t e b) (left_behind e.what live) es)
    ∙ next_tells (λ l. entries_told (lines_of_passed t (passed t (step t e b) l es))) e.day e.what es live (λ l same. told t (step t e b) l es same) h

pub history_tells : (a : Account) → IsAccount a → entries_told (history_of a) ≡ live_of a
unfolding history_of
history_tells a h =
    let early : All (λ e. e.day ≤ a.today) (live_of a) = live_all (λ e. e.day ≤ a.today) a.entries a.reversals h.until in
    told a.terms (start a.terms) (live_of a) (events_to a.terms (live_of a) a.today) (acts_events a.terms (live_of a) a.today (live_entries_fold a h).order ∙ all_entries (live_of a) a.today early)
