-- What satisfies a loan on a day.
use Rattle.std.specs.Prelude.{ℕ, ◌-◌, nat_le, Bool, ◌||◌, ℤ, pos, ◌+ℤ◌, ◌-ℤ◌, int_lt, int_le, if◌then◌else◌}
use Rattle.std.specs.Int.{int_max}
use Rattle.svc_base.specs.Calendar.{first_day, days360, day_after}
use Rattle.svc_base.specs.Money.{day_interest}
use Rattle.svc_types.specs.declared.terms.Terms.{Terms}
use Rattle.svc_types.specs.declared.books.Books.{Books}
use Rattle.svc_spec.specs.Installments.{due_month, due_day}

-- the last satisfied due date: the first day of the month before the open installment's
abbrev pub paid_through : Terms → Books → ℕ
paid_through t b = first_day (due_month t b.next - 1)

-- the days of interest that a payoff asks, each month of 30 days
abbrev pub payoff_days : Terms → ℕ → Books → ℕ
payoff_days t day b = days360 (paid_through t b) day

-- balance and interest, where the loan is not satisfied
unfoldable pub payoff_principal : Terms → ℕ → Books → ℤ
payoff_principal t day b =
    if int_lt (pos 0) b.upb then b.upb +ℤ day_interest b.upb t.rate (payoff_days t day b) else pos 0

-- what the servicer has advanced for escrow
abbrev pub escrow_advanced : Books → ℤ
escrow_advanced b = int_max (pos 0) (pos 0 -ℤ b.escrow)

-- all that a payoff asks on a day
unfoldable pub payoff_sum : Terms → ℕ → Books → ℤ
payoff_sum t day b = payoff_principal t day b +ℤ b.late_owed +ℤ escrow_advanced b

-- what it asks beside the money in suspense
abbrev pub payoff_due : Terms → ℕ → Books → ℤ
payoff_due t day b = int_max (pos 0) (payoff_sum t day b -ℤ b.suspense)

-- what may be refunded to the borrower
unfoldable pub available : Books → ℤ
available b =
    if int_lt (pos 0) b.upb then int_max (pos 0) b.escrow else int_max (pos 0) (b.suspense +ℤ b.escrow)

-- the borrower is current: satisfied, or the open installment's due day plus 30 is not past
unfoldable pub is_current : Terms → ℕ → Books → Bool
is_current t day b = int_le b.upb (pos 0) || nat_le day (day_after (due_day t b.next) 30)
