-- A loan's history: its events up to the business day, each with what it changed.
use Rattle.std.specs.Prelude.{ℕ, List, [], ◌∷◌, map, Bool, true, false, ◌||◌, not, Option, Some, None, ◌-ℤ◌}
use Rattle.std.specs.List.{filter}
use Rattle.std.specs.Option.{option_map}
use Rattle.std.specs.Ordering.{int_eq}
use Rattle.svc_base.specs.Calendar.{month_of}
use Rattle.svc_types.specs.declared.terms.Terms.{Terms}
use Rattle.svc_types.specs.declared.books.Books.{Books}
use Rattle.svc_types.specs.declared.books.Installment.{Installment}
use Rattle.svc_types.specs.declared.account.Entry.{Entry}
use Rattle.svc_types.specs.declared.account.Event.{Event}
use Rattle.svc_types.specs.declared.account.What.{What}
use Rattle.svc_types.specs.declared.account.What.TheVariants as what
use Rattle.svc_types.specs.declared.desk.HistoryLine.{HistoryLine}
use Rattle.svc_spec.specs.Installments.{open_installment}
use Rattle.svc_spec.specs.Step.{step}
use Rattle.svc_spec.specs.Books.{start}
use Rattle.svc_spec.specs.Events.{events_to}
use Rattle.svc_spec.specs.Accounts.{Account, live_of}

-- an event with the number of its entry, and the books before and after it
pub record Passed : Type 0 where
  pub event : Event
  pub number : Option ℕ
  pub before : Books
  pub after : Books

-- the number of the first of some entries
abbrev pub first_number : List Entry → Option ℕ
first_number [] = None
first_number (e ∷ es) = Some e.number

-- all but the first
abbrev pub but_first : List Entry → List Entry
but_first [] = []
but_first (e ∷ es) = es

-- the entry of an event is the first that is left, and a mark has none
abbrev pub number_for : What → List Entry → Option ℕ
number_for what.MonthMark es = None
number_for (what.LateMark k) es = None
number_for (what.Act a) es = first_number es

-- the entries that are left behind an event
abbrev pub left_behind : What → List Entry → List Entry
left_behind what.MonthMark es = es
left_behind (what.LateMark k) es = es
left_behind (what.Act a) es = but_first es

-- events in their order, each with the books before and after it; the entries stand among them in their order
unfoldable pub passed : Terms → Books → List Entry → List Event → List Passed
passed t b live [] = []
passed t b live (e ∷ es) =
    record { event = e; number = number_for e.what live; before = b; after = step t e b }
    ∷ passed t (step t e b) (left_behind e.what live) es

-- the event of an entry
abbrev pub is_entry : What → Bool
is_entry what.MonthMark = false
is_entry (what.LateMark k) = false
is_entry (what.Act a) = true

-- an entry is shown, and so is a mark that changes suspense or the late charges owed
abbrev pub is_shown : What → Books → Books → Bool
is_shown w before after =
    is_entry w || not (int_eq before.suspense after.suspense) || not (int_eq before.late_owed after.late_owed)

-- the month of the open installment, where one is open
abbrev pub open_month : Terms → Books → Option ℕ
open_month t b = option_map (λ (i : Installment). month_of i.due) (open_installment t b)

-- the line of an event: what is after it less what was before, and the balance and the open installment after it
abbrev pub history_line : Terms → Passed → HistoryLine
history_line t p = record {
  day = p.event.day;
  number = p.number;
  what = p.event.what;
  interest = p.after.interest -ℤ p.before.interest;
  principal = p.after.principal -ℤ p.before.principal;
  escrow = p.after.escrow -ℤ p.before.escrow;
  late = p.after.late_owed -ℤ p.before.late_owed;
  charges = p.after.late_paid -ℤ p.before.late_paid;
  suspense = p.after.suspense -ℤ p.before.suspense;
  upb = p.after.upb;
  next = open_month t p.after;
}

-- whether an event has a line
abbrev pub has_line : Passed → Bool
has_line p = is_shown p.event.what p.before p.after

-- the lines of some events
abbrev pub lines_of_passed : Terms → List Passed → List HistoryLine
lines_of_passed t all = map (history_line t) (filter has_line all)

-- the lines of an account's history
unfoldable pub history_of : Account → List HistoryLine
history_of a =
    lines_of_passed a.terms (passed a.terms (start a.terms) (live_of a) (events_to a.terms (live_of a) a.today))
