-- When mortgage insurance ends (Homeowners Protection Act of 1998, 12 U.S.C. 4902, in this product's profile):
-- at the borrower's request at 80 percent of the original value, and by itself at 78 percent by schedule.
use Rattle.std.specs.Prelude.{ℕ, ◌+◌, ◌-◌, nat_le, Bool, false, ◌&&◌, ◌||◌, is_some, if◌then◌else◌, List, Option, Some, None, ℤ, pos, ◌*ℤ◌, int_le}
use Rattle.std.specs.Int.{int_min}
use Rattle.std.specs.List.{find, range_with_len}
use Rattle.std.specs.Option.{option_map}
use Rattle.svc_base.specs.Calendar.{month_of, first_day}
use Rattle.svc_types.specs.declared.terms.Terms.{Terms}
use Rattle.svc_types.specs.declared.books.Books.{Books}
use Rattle.svc_spec.specs.Accounts.{Account, books_of}
use Rattle.svc_spec.specs.Installments.{due_day}
use Rattle.svc_spec.specs.Payoff.{is_current}
use Rattle.pmi_track.specs.declared.pmi_outcome.PmiOutcome.{PmiOutcome}
use Rattle.pmi_track.specs.declared.pmi_outcome.PmiOutcome.TheVariants.{Runs, Ends}
use Rattle.pmi_track.specs.declared.pmi_outcome.Cause.{Cause}
use Rattle.pmi_track.specs.declared.pmi_outcome.Cause.TheVariants.{PaidOff, Automatic, Asked}
use Rattle.pmi_track.specs.declared.pmi_outcome.Denial.{Denial}
use Rattle.pmi_track.specs.declared.pmi_outcome.Denial.TheVariants.{NotCurrent, Above}
use Rattle.pmi_track.specs.Schedule.{scheduled_on}

-- a balance is at most that percentage of the original value
abbrev pub is_within : ℕ → ℤ → ℤ → Bool
is_within percent value balance = int_le (pos 100 *ℤ balance) (pos percent *ℤ value)

-- ---- by itself

-- the insurance ends on a day, by the books of the day and the scheduled balance: the borrower is current, and
-- the loan is satisfied or that balance is at most 78 percent of the value
abbrev pub ends_with : Books → Terms → ℕ → ℤ → ℤ → Bool
ends_with b t day value balance = is_current t day b && (is_some b.satisfied || is_within 78 value balance)

abbrev pub ends_on : Account → ℤ → ℕ → Bool
ends_on a value day = ends_with (books_of a day) a.terms day value (scheduled_on a.terms day)

-- the months whose first days are after the boarded day, and at most the business day
abbrev pub months_since : Account → List ℕ
months_since a = range_with_len (month_of a.terms.boarded + 1) (month_of a.today - month_of a.terms.boarded)

-- the first of them on whose first day the insurance ends by itself
abbrev pub automatic_month : Account → ℤ → Option ℕ
automatic_month a value = find (λ m. ends_on a value (first_day m)) (months_since a)

-- the cause of such an end, by the books of its day
abbrev pub cause_of : Books → Cause
cause_of b = if is_some b.satisfied then PaidOff else Automatic

-- the first day of a month, with that cause
abbrev pub end_in : Account → ℕ → ℕ × Cause
end_in a month = (first_day month, cause_of (books_of a (first_day month)))

-- the same, where the insurance ends on that day
abbrev pub end_on : Account → ℤ → ℕ → Option (ℕ × Cause)
end_on a value month = if ends_on a value (first_day month) then Some (end_in a month) else None

abbrev pub automatic_end : Account → ℤ → Option (ℕ × Cause)
automatic_end a value = option_map (end_in a) (automatic_month a value)

-- ---- at request

-- the lesser of the balance on a day and the scheduled one
abbrev pub asked_balance : Books → Terms → ℕ → ℤ
asked_balance b t day = int_min b.upb (scheduled_on t day)

-- why a request of a day is denied, by the books of the day: the borrower is not current, or that balance is
-- above 80 percent of the value
abbrev pub denial_with : Books → Terms → ℕ → ℤ → Option Denial
denial_with b t day value =
    if is_current t day b then
    (if is_within 80 value (asked_balance b t day) then None else Some (Above (asked_balance b t day)))
    else Some (NotCurrent (due_day t b.next))

abbrev pub denial_of : Account → ℤ → Option ℕ → Option Denial
denial_of a value None = None
denial_of a value (Some day) = denial_with (books_of a day) a.terms day value

-- ---- both

-- the insurance has ended by itself by a day
abbrev pub is_ended_by : ℕ → Option (ℕ × Cause) → Bool
is_ended_by day None = false
is_ended_by day (Some end) = nat_le end.0 day

-- by itself it ends on its day, or it runs, with what was denied
abbrev pub by_itself : Option Denial → Option (ℕ × Cause) → PmiOutcome
by_itself denial None = Runs denial
by_itself denial (Some end) = Ends end.0 end.1

-- a request that is granted ends the insurance on its day, where it has not ended by itself by then
abbrev pub outcome_by : Option ℕ → Option Denial → Option (ℕ × Cause) → PmiOutcome
outcome_by (Some day) None automatic =
    if is_ended_by day automatic then by_itself None automatic else Ends day Asked
outcome_by asked denial automatic = by_itself denial automatic

-- what has become of the insurance of a loan of that value, where the borrower asked on a day or did not
abbrev pub outcome_of : Account → ℤ → Option ℕ → PmiOutcome
outcome_of a value asked = outcome_by asked (denial_of a value asked) (automatic_end a value)
