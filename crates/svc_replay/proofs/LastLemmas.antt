-- An entry after which nothing happens to a loan is the last of its events.
use Rattle.std.proofs.Common.{◌≡◌, ℕ, zero, suc, ◌+◌, ◌-◌, ◌≤◌, ◌<◌, true, false, List, [], ◌∷◌, ◌++◌, length, map, arith, refl, sym, ap, subst, ◌∙◌, append_assoc, length-append}
use Rattle.std.specs.Prelude.{Option, Some, None, is_some, not, Bool, ◌||◌, ◌&&◌, ◌==◌, nat_le, nat_lt, if◌then◌else◌}
use Rattle.std.specs.List.{All}
use Rattle.std.proofs.lemmas.List.{map-append}
use Rattle.std.proofs.lemmas.List.Elements.{All-cons, All-head, All-tail, filter-append}
use Rattle.std.proofs.lemmas.Bool.Decides.{nat_tests}
use Rattle.svc_base.specs.Calendar.{month_of, first_day}
use Rattle.svc_types.specs.declared.terms.Terms.{Terms}
use Rattle.svc_types.specs.declared.account.Entry.{Entry}
use Rattle.svc_types.specs.declared.account.Event.{Event}
use Rattle.svc_types.specs.Live.{is_before, placed}
use Rattle.svc_types.proofs.OrderLemmas.{live_all}
use Rattle.svc_spec.specs.Books.{start, AreWithin}
use Rattle.svc_spec.specs.Step.{step}
use Rattle.svc_spec.specs.Events.{month_mark, month_marks_from, month_marks, late_marks, up_to, event_of, entry_events, insert_event, by_day, events_to, folded, books_at}
use Rattle.svc_spec.specs.Accounts.{Account, IsAccount, MayPost, posted, live_of, books_of}
use Rattle.svc_spec.proofs.SettlingLemmas.{nat_le-true, from_nat_le}
use Rattle.svc_spec.proofs.DayLemmas.{on, step_on}
use Rattle.svc_spec.proofs.EventLemmas.{up_to_more, can_fold_events, can_fold_within}
use Rattle.svc_spec.proofs.TimeLemmas.{past, folded_on}
use Rattle.svc_spec.proofs.CostLemmas.{events_by}
use Rattle.svc_spec.proofs.AccountLemmas.{live_after_post, live_entries_fold, account_few}
use Rattle.svc_replay.specs.Kept.{IsQuietAfter}
use Rattle.svc_replay.specs.Left.{Follows}

-- ---- the last of some events by day

insert_last : (x e : Event) (ys : List Event) → x.day ≤ e.day → insert_event x (ys ++ e ∷ []) ≡ insert_event x ys ++ e ∷ []
insert_last x e [] le = rw (nat_le-true x.day e.day le)
insert_last x e (y ∷ ys) le =
    elim (nat_le x.day y.day) as (λ v. (if v then x ∷ y ∷ (ys ++ e ∷ []) else y ∷ insert_event x (ys ++ e ∷ [])) ≡ (if v then x ∷ y ∷ ys else y ∷ insert_event x ys) ++ e ∷ []) [
      | true ↦ refl
      | false ↦ ap (λ zs. y ∷ zs) (insert_last x e ys le)
    ]

by_day_last : (xs : List Event) (e : Event) → All (λ x. x.day ≤ e.day) xs → by_day (xs ++ e ∷ []) ≡ by_day xs ++ e ∷ []
by_day_last [] e h = refl
by_day_last (x ∷ xs) e h =
    ap (insert_event x) (by_day_last xs e (All-tail (λ y. y.day ≤ e.day) x xs h))
    ∙ insert_last x e (by_day xs) (All-head (λ y. y.day ≤ e.day) x xs h)

-- ---- what holds of all events by day holds of all that they are made of

insert_parts : (P : Event → Type 0) (e : Event) (xs : List Event) → All P (insert_event e xs) → P e × All P xs
insert_parts P e [] h = (All-head P e [] h, λ k x lt. absurd (omega arith))
insert_parts P e (x ∷ xs) h =
    elim (nat_le e.day x.day) as (λ v. All P (if v then e ∷ x ∷ xs else x ∷ insert_event e xs) → P e × All P (x ∷ xs)) [
      | true ↦ λ g. (All-head P e (x ∷ xs) g, All-tail P e (x ∷ xs) g)
      | false ↦ λ g.
          let rest = insert_parts P e xs (All-tail P x (insert_event e xs) g) in
          (rest.0, All-cons P x xs (All-head P x (insert_event e xs) g) rest.1)
    ] h

pub by_day_parts : (P : Event → Type 0) (xs : List Event) → All P (by_day xs) → All P xs
by_day_parts P [] h = h
by_day_parts P (x ∷ xs) h =
    let both = insert_parts P x (by_day xs) h in
    All-cons P x xs both.0 (by_day_parts P xs both.1)

pub all_front : (P : Event → Type 0) (xs ys : List Event) → All P (xs ++ ys) → All P xs
all_front P [] ys h = λ k x lt. absurd (omega arith)
all_front P (x ∷ xs) ys h = All-cons P x xs (All-head P x (xs ++ ys) h) (all_front P xs ys (All-tail P x (xs ++ ys) h))

pub all_back : (P : Event → Type 0) (xs ys : List Event) → All P (xs ++ ys) → All P ys
all_back P [] ys h = h
all_back P (x ∷ xs) ys h = all_back P xs ys (All-tail P x (xs ++ ys) h)

quiet_months : (t : Terms) (live : List Entry) (d d' : ℕ) → All (λ x. x.day ≤ d) (events_to t live d') → All (λ x. x.day ≤ d) (month_marks t d')
unfolding events_to
quiet_months t live d d' h =
    let P : Event → Type 0 = λ x. x.day ≤ d in
    let all = by_day_parts P (month_marks t d' ++ late_marks t d' ++ entry_events live d') h in
    all_front P (month_marks t d') (late_marks t d') (all_front P (month_marks t d' ++ late_marks t d') (entry_events live d') all)

quiet_entries : (t : Terms) (live : List Entry) (d d' : ℕ) → All (λ x. x.day ≤ d) (events_to t live d') → All (λ x. x.day ≤ d) (entry_events live d')
unfolding events_to
quiet_entries t live d d' h =
    let P : Event → Type 0 = λ x. x.day ≤ d in
    all_back P (month_marks t d' ++ late_marks t d') (entry_events live d') (by_day_parts P (month_marks t d' ++ late_marks t d' ++ entry_events live d') h)

-- where no event is past a day, all are up to it
pub none_past : (d : ℕ) (xs : List Event) → past d xs ≡ [] → All (λ x. x.day ≤ d) xs
none_past d [] h = λ k x lt. absurd (omega arith)
none_past d (x ∷ xs) h =
    elim (nat_le x.day d) as (λ v. nat_le x.day d ≡ v → past d (x ∷ xs) ≡ [] → All (λ y. y.day ≤ d) (x ∷ xs)) [
      | true ↦ λ e g. All-cons (λ y. y.day ≤ d) x xs (from_nat_le x.day d e) (none_past d xs (rw e at g))
      | false ↦ λ e g. let all : x ∷ past d xs ≡ [] = rw e at g in absurd (cc)
    ] refl h

-- where nothing follows, nothing is left
pub nothing_follows : (first : Option Event) (all rest : List Event) (b : Bool) → Follows first all rest → is_some first ≡ not b → b ≡ true → all ≡ []
nothing_follows None all rest b h e is = h
nothing_follows (Some x) all rest b h e is = let none : true ≡ false = rw is at e in absurd (cc)

-- nothing is known to happen after the business day
pub quiet_today : (a : Account) (d : ℕ) → IsAccount a → d ≡ a.today → IsQuietAfter a d
quiet_today a d h is = subst (IsQuietAfter a) (sym is) (events_by a.terms (live_of a) a.today h.after)

-- ---- the month of a day after which nothing happens is that of the business day

last_mark_by : (m n d : ℕ) → All (λ x. x.day ≤ d) (month_marks_from m (suc n)) → first_day (m + n) ≤ d
last_mark_by m zero d h =
    let same : m + zero ≡ m = omega arith in
    rw same (All-head (λ x. x.day ≤ d) (month_mark m) (month_marks_from (m + 1) zero) h)
last_mark_by m (suc n) d h =
    let same : m + suc n ≡ m + 1 + n = omega arith in
    rw same (last_mark_by (m + 1) n d (All-tail (λ x. x.day ≤ d) (month_mark m) (month_marks_from (m + 1) (suc n)) h))

pub quiet_month : (a : Account) (d : ℕ) → a.terms.boarded ≤ d → IsQuietAfter a d → month_of a.today ≤ month_of d
quiet_month a d since quiet =
    let first = month_of a.terms.boarded in
    let marks = quiet_months a.terms (live_of a) d a.today quiet in
    elim (month_of a.today - first) as (λ n. month_of a.today - first ≡ n → All (λ x. x.day ≤ d) (month_marks_from (first + 1) n) → month_of a.today ≤ month_of d) [
      | zero ↦ λ e h. omega arith
      | suc n ↦ λ e h. let last = last_mark_by (first + 1) n d h in omega arith
    ] refl marks

-- ---- the entry is the last

days_back : (d d' : ℕ) (live : List Entry) → All (λ e. e.day ≤ d') live → All (λ x. x.day ≤ d) (entry_events live d') → All (λ e. e.day ≤ d) live
days_back d d' [] within h = λ k x lt. absurd (omega arith)
days_back d d' (x ∷ xs) within h =
    let P : Event → Type 0 = λ y. y.day ≤ d in
    let here = All-head (λ e. e.day ≤ d') x xs within in
    let all = subst (All P) (up_to_more d' (event_of x) (map event_of xs) here) h in
    All-cons (λ e. e.day ≤ d) x xs (All-head P (event_of x) (entry_events xs d') all) (days_back d d' xs (All-tail (λ e. e.day ≤ d') x xs within) (All-tail P (event_of x) (entry_events xs d') all))

not_before : (a b m n : ℕ) → b ≤ a → n < m → (nat_lt a b || ((a == b) && nat_lt m n)) ≡ false
not_before a b m n le lt = grind (arith, nat_tests)

placed_last : (e : Entry) (xs : List Entry) → All (λ x. x.day ≤ e.day) xs → All (λ x. x.number < e.number) xs → placed e xs ≡ xs ++ e ∷ []
placed_last e [] days numbers = refl
placed_last e (x ∷ xs) days numbers =
    let after : is_before e x ≡ false = not_before e.day x.day e.number x.number (All-head (λ y. y.day ≤ e.day) x xs days) (All-head (λ y. y.number < e.number) x xs numbers) in
    rw after (ap (λ ys. x ∷ ys) (placed_last e xs (All-tail (λ y. y.day ≤ e.day) x xs days) (All-tail (λ y. y.number < e.number) x xs numbers)))

events_last : (t : Terms) (live : List Entry) (e : Entry) (d : ℕ) → e.day ≤ d → All (λ x. x.day ≤ e.day) (events_to t live d) → events_to t (live ++ e ∷ []) d ≡ events_to t live d ++ event_of e ∷ []
unfolding events_to
events_last t live e d within h =
    let marks = month_marks t d ++ late_marks t d in
    let all = marks ++ entry_events live d in
    let one : entry_events (live ++ e ∷ []) d ≡ entry_events live d ++ event_of e ∷ [] =
    ap (up_to d) (map-append event_of live (e ∷ []))
    ∙ filter-append (λ (x : Event). nat_le x.day d) (map event_of live) (event_of e ∷ [])
    ∙ ap (λ xs. entry_events live d ++ xs) (up_to_more d (event_of e) [] within) in
    let joined : marks ++ entry_events (live ++ e ∷ []) d ≡ all ++ event_of e ∷ [] = ap (λ xs. marks ++ xs) one ∙ simp append_assoc in
    ap by_day joined ∙ by_day_last all (event_of e) (by_day_parts (λ x. x.day ≤ e.day) all h)

pub posted_events : (a : Account) (e : Entry) → IsAccount a → MayPost a e → IsQuietAfter a e.day → events_to a.terms (live_of (posted e a)) a.today ≡ events_to a.terms (live_of a) a.today ++ event_of e ∷ []
posted_events a e h may quiet =
    let t = a.terms in
    let live = live_of a in
    let until : All (λ x. x.day ≤ a.today) live = live_all (λ x. x.day ≤ a.today) a.entries a.reversals h.until in
    let days = days_back e.day a.today live until (quiet_entries t live e.day a.today quiet) in
    let numbers = live_all (λ x. x.number < e.number) a.entries a.reversals may.number in
    ap (λ xs. events_to t xs a.today) (live_after_post a e h may ∙ placed_last e live days numbers)
    ∙ events_last t live e a.today may.until quiet

-- ---- what its step makes of the books

-- the books of the business day are moved on by one step, on the day of the entry
pub posted_books : (a : Account) (e : Entry) → IsAccount a → MayPost a e → IsQuietAfter a e.day → books_of (posted e a) a.today ≡ on a.today (step a.terms (event_of e) (on e.day (books_of a a.today)))
unfolding books_at
posted_books a e h may quiet =
    let t = a.terms in
    let events = events_to t (live_of a) a.today in
    ap (λ es. on a.today (folded t (start t) es)) (posted_events a e h may quiet)
    ∙ ap (on a.today) (folded_on t (start t) events (event_of e ∷ []))
    ∙ ap (on a.today) (sym (step_on t (event_of e) e.day (folded t (start t) events)))

-- and stay within the limits
pub posted_within : (a : Account) (e : Entry) → IsAccount a → MayPost a e → IsAccount (posted e a) → IsQuietAfter a e.day → AreWithin (step a.terms (event_of e) (on e.day (books_of a a.today)))
unfolding books_at
posted_within a e h may h' quiet =
    let t = a.terms in
    let events = events_to t (live_of a) a.today in
    let b = folded t (start t) events in
    let can = can_fold_events t (live_of (posted e a)) a.today events (event_of e ∷ []) h.terms (live_entries_fold (posted e a) h') (account_few (posted e a) h') (posted_events a e h may quiet) in
    subst AreWithin (sym (step_on t (event_of e) e.day b)) (can_fold_within t b (event_of e) [] h.terms can)

pub posted_count : (a : Account) (e : Entry) → IsAccount a → MayPost a e → IsQuietAfter a e.day → length (events_to a.terms (live_of (posted e a)) a.today) ≡ length (events_to a.terms (live_of a) a.today) + 1
posted_count a e h may quiet = ap length (posted_events a e h may quiet) ∙ length-append (events_to a.terms (live_of a) a.today) (event_of e ∷ [])
