-- The events of a loan up to a day, and the books that come of them: the refold with which
-- everything is compared.
use Rattle.std.specs.Prelude.{ℕ, zero, suc, ◌+◌, ◌-◌, nat_le, List, [], ◌∷◌, ◌++◌, map, if◌then◌else◌}
use Rattle.std.specs.List.{filter}
use Rattle.svc_base.specs.Calendar.{month_of, first_day, day_after}
use Rattle.svc_types.specs.declared.terms.Terms.{Terms}
use Rattle.svc_types.specs.declared.books.Books.{Books}
use Rattle.svc_types.specs.declared.account.Entry.{Entry}
use Rattle.svc_types.specs.declared.account.Event.{Event}
use Rattle.svc_types.specs.declared.account.What.TheVariants as what
use Rattle.svc_spec.specs.Installments.{due_day}
use Rattle.svc_spec.specs.Step.{step}
use Rattle.svc_spec.specs.Books.{start}

-- the first day of a month is an event
abbrev pub month_mark : ℕ → Event
month_mark m = record { day = first_day m; what = what.MonthMark }

-- marks for n months from m on
abbrev pub month_marks_from : ℕ → ℕ → List Event
month_marks_from m zero = []
month_marks_from m (suc n) = month_mark m ∷ month_marks_from (m + 1) n

-- a mark on each first day after the boarded day, up to a day
abbrev pub month_marks : Terms → ℕ → List Event
month_marks t d = month_marks_from (month_of t.boarded + 1) (month_of d - month_of t.boarded)

-- the day on which the grace of installment k is over
abbrev pub late_day : Terms → ℕ → ℕ
late_day t k = day_after (due_day t k) (t.grace + 1)

-- the end of its grace is an event
abbrev pub late_mark : Terms → ℕ → Event
late_mark t k = record { day = late_day t k; what = what.LateMark k }

-- late marks of n installments from k on
abbrev pub late_marks_from : Terms → ℕ → ℕ → List Event
late_marks_from t k zero = []
late_marks_from t k (suc n) = late_mark t k ∷ late_marks_from t (k + 1) n

-- what is on or before a day
abbrev pub up_to : ℕ → List Event → List Event
up_to d = filter (λ e. nat_le e.day d)

-- the late marks of all installments up to a day
abbrev pub late_marks : Terms → ℕ → List Event
late_marks t d = up_to d (late_marks_from t 1 t.term)

-- an entry takes effect on its day
abbrev pub event_of : Entry → Event
event_of e = record { day = e.day; what = what.Act e.act }

-- live entries, which stand by day and number, up to a day
abbrev pub entry_events : List Entry → ℕ → List Event
entry_events live d = up_to d (map event_of live)

-- an event before all that are not earlier
abbrev pub insert_event : Event → List Event → List Event
insert_event e [] = e ∷ []
insert_event e (x ∷ xs) = if nat_le e.day x.day then e ∷ x ∷ xs else x ∷ insert_event e xs

-- events by day; those of one day stay as they stood
abbrev pub by_day : List Event → List Event
by_day [] = []
by_day (e ∷ es) = insert_event e (by_day es)

-- all events up to a day; on one day a month mark, then a late mark, then the entries
unfoldable pub events_to : Terms → List Entry → ℕ → List Event
events_to t live d = by_day (month_marks t d ++ late_marks t d ++ entry_events live d)

-- the books after a list of events
abbrev pub folded : Terms → Books → List Event → Books
folded t b [] = b
folded t b (e ∷ es) = folded t (step t e b) es

-- the books at a day: all its events, from boarding on
unfoldable pub books_at : Terms → List Entry → ℕ → Books
books_at t live d = record (folded t (start t) (events_to t live d)) { day = d }
