-- The events of a loan that are left from a place on.
use Rattle.std.specs.Prelude.{◌≡◌, ℕ, ◌+◌, ◌-◌, ◌≤◌, ◌<◌, nat_lt, if◌then◌else◌}
use Rattle.std.specs.Prelude.{Option, Some, None, List, [], ◌∷◌, ◌++◌, take, drop}
use Rattle.std.specs.List.{All}
use Rattle.svc_base.specs.Calendar.{month_of}
use Rattle.svc_types.specs.declared.terms.Terms.{Terms}
use Rattle.svc_types.specs.declared.account.Entry.{Entry}
use Rattle.svc_types.specs.declared.account.Event.{Event}
use Rattle.svc_replay.specs.declared.cursor.Lates.{Lates}
use Rattle.svc_replay.specs.declared.cursor.Cursor.{Cursor}
use Rattle.svc_spec.specs.Events.{late_day, month_marks_from, late_marks_from, up_to, entry_events, by_day}

-- the month marks up to a day after month m
abbrev pub months_left : ℕ → ℕ → List Event
months_left m d = month_marks_from (m + 1) (month_of d - m)

-- the late marks up to a day after installment k
abbrev pub lates_left : Terms → ℕ → ℕ → List Event
lates_left t k d = up_to d (late_marks_from t (k + 1) (t.term - k))

-- the entries up to a day without the first i
abbrev pub entries_left : List Entry → ℕ → ℕ → List Event
entries_left live i d = entry_events (drop i live) d

-- all of them in order
unfoldable pub left : Terms → List Entry → ℕ → ℕ → ℕ → ℕ → List Event
left t live d m k i = by_day (months_left m d ++ lates_left t k d ++ entries_left live i d)

-- a place after all events up to a day: the marks of its month and of earlier ones, the late marks of
-- the k installments whose grace is over by it, and the i entries up to it
pub record IsAfter (t : Terms) (live : List Entry) (d m k i : ℕ) : Type 0 where
  pub month : m ≡ month_of d
  pub few : k ≤ t.term
  pub over : 1 ≤ k → late_day t k ≤ d
  pub open_grace : k < t.term → d < late_day t (k + 1)
  pub taken : All (λ e. e.day ≤ d) (take i live)
  pub later : All (λ e. d < e.day) (drop i live)

-- a place up to a day: what has been passed is not after it
pub record IsBy (t : Terms) (live : List Entry) (d m k i : ℕ) : Type 0 where
  pub month : m ≤ month_of d
  pub few : k ≤ t.term
  pub over : 1 ≤ k → late_day t k ≤ d
  pub taken : All (λ e. e.day ≤ d) (take i live)

-- the day of the late mark after installment k, where there is one
abbrev pub next_late : Terms → ℕ → Option ℕ
next_late t k = if nat_lt k t.term then Some (late_day t (k + 1)) else None

-- the late marks up to a day, and the day of the next one
pub record AreLates (t : Terms) (d : ℕ) (l : Lates) : Type 0 where
  pub few : l.count ≤ t.term
  pub over : 1 ≤ l.count → late_day t l.count ≤ d
  pub open_grace : l.count < t.term → d < late_day t (l.count + 1)
  pub next : l.next ≡ next_late t l.count

-- a cursor after all events up to a day
pub record IsPlace (t : Terms) (live : List Entry) (d : ℕ) (c : Cursor) : Type 0 where
  pub after : IsAfter t live d c.month c.lates.count c.entry
  pub next : c.lates.next ≡ next_late t c.lates.count

-- the first of some events, where there is one, and the others
abbrev pub Follows : Option Event → List Event → List Event → Type 0
Follows None all rest = all ≡ []
Follows (Some e) all rest = all ≡ e ∷ rest
