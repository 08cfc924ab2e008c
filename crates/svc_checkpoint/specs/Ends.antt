-- The books at the ends of months, and what of a fold comes after them.
use Rattle.std.specs.Prelude.{◌≡◌, ℕ, ◌+◌, ◌-◌, ◌<◌, nat_le, Option, None, Some, List, length, get_or, pos, ◌-ℤ◌, int_le, if◌then◌else◌}
use Rattle.std.specs.Option.{unwrap_or}
use Rattle.svc_base.specs.Calendar.{month_of, last_day, IsDay}
use Rattle.svc_types.specs.declared.terms.Terms.{Terms}
use Rattle.svc_types.specs.declared.escrow.EscrowPlan.{EscrowPlan}
use Rattle.svc_types.specs.declared.books.Books.{Books}
use Rattle.svc_spec.specs.Books.{AreBooks}
use Rattle.svc_spec.specs.Accounts.{Account, IsAccount, live_of, books_of}
use Rattle.svc_spec.specs.Months.{counted}
use Rattle.svc_replay.specs.declared.cursor.Lates.{Lates}
use Rattle.svc_replay.specs.Left.{AreLates}
use Rattle.svc_types.specs.declared.books.Collected.{Collected}
use Rattle.svc_checkpoint.specs.declared.month_end.MonthEnd.{MonthEnd}
use Rattle.svc_checkpoint.specs.Plans.{plan_with, IsNumber}

-- what is kept of books, with the numbers that stand for their plans
abbrev pub kept_of : Books → Option ℕ → Option ℕ → MonthEnd
kept_of b plan earlier = record {
  upb = b.upb;
  escrow = b.escrow;
  suspense = b.suspense;
  late_owed = b.late_owed;
  interest = b.interest;
  fee = b.fee;
  curtailed = b.curtailed;
  late_paid = b.late_paid;
  next = b.next;
  satisfied = unwrap_or b.satisfied b.day;
  plan = plan;
  earlier = earlier;
}

-- the day on which the loan was satisfied: it has no balance
abbrev pub satisfied_by : MonthEnd → Option ℕ
satisfied_by e = if int_le e.upb (pos 0) then Some e.satisfied else None

-- the balance, and what was collected
abbrev pub collected_by : MonthEnd → Collected
collected_by e = record { upb = e.upb; curtailed = e.curtailed; interest = e.interest; fee = e.fee }

-- the books of a day of which that is kept: the principal collected is what the balance fell by
abbrev pub books_from : Terms → ℕ → EscrowPlan → EscrowPlan → MonthEnd → Books
books_from t d plan earlier e = record {
  day = d;
  next = e.next;
  upb = e.upb;
  escrow = e.escrow;
  suspense = e.suspense;
  late_owed = e.late_owed;
  interest = e.interest;
  fee = e.fee;
  principal = t.principal -ℤ e.upb;
  curtailed = e.curtailed;
  late_paid = e.late_paid;
  plan = plan;
  earlier = earlier;
  satisfied = satisfied_by e;
}

-- what is kept of the books of an account at a day
pub record IsEnd (a : Account) (d : ℕ) (e : MonthEnd) : Type 0 where
  pub books : books_from a.terms d (plan_with a e.plan) (plan_with a e.earlier) e ≡ books_of a d
  pub plan : IsNumber a.entries e.plan
  pub earlier : IsNumber a.entries e.earlier

-- what is kept of the ends of the first n months, from the boarded one on
abbrev pub AreEnds : Account → List MonthEnd → ℕ → Type 0
AreEnds a ends n =
    (i : ℕ) (e : MonthEnd) → i < n → IsEnd a (last_day (month_of a.terms.boarded + i)) (get_or ends i e)

-- an account of which the end of each month before the business day's is kept, and the books now
pub record AreChecked (a : Account) (kept : List MonthEnd) (day : Books) (passed : Lates) : Type 0 where
  pub account : IsAccount a
  pub today : IsDay a.today
  pub count : month_of a.terms.boarded + length kept ≡ month_of a.today
  pub ends : AreEnds a kept (length kept)
  pub now : day ≡ books_of a a.today
  pub sound : AreBooks a.terms day
  pub lates : AreLates a.terms a.today passed

-- what was counted up to the end of the month before one; up to boarding nothing is folded
abbrev pub counted_before : Account → ℕ → ℕ
counted_before a m =
    if nat_le m (month_of a.terms.boarded) then 1 else counted a.terms (live_of a) (last_day (m - 1))

-- the day of the books from which a month is folded: the last one of the month before, in the boarded month the boarded one
abbrev pub day_before : Account → ℕ → ℕ
day_before a m = if nat_le m (month_of a.terms.boarded) then a.terms.boarded else last_day (m - 1)
