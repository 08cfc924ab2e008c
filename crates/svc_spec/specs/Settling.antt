-- Settling: what suspense pays by itself, after every event.
use Rattle.std.specs.Prelude.{ℕ, zero, suc, ◌+◌, ◌-◌, ◌&&◌, Bool, true, nat_le, Some, is_none, ℤ, pos, ◌+ℤ◌, ◌-ℤ◌, int_lt, int_le, if◌then◌else◌}
use Rattle.std.specs.Int.{int_min}
use Rattle.svc_base.specs.Calendar.{month_of}
use Rattle.svc_types.specs.declared.terms.Terms.{Terms}
use Rattle.svc_types.specs.declared.escrow.EscrowPlan.{EscrowPlan}
use Rattle.svc_types.specs.declared.books.Books.{Books}
use Rattle.svc_types.specs.declared.books.Installment.{Installment}
use Rattle.svc_spec.specs.Installments.{due_month, due_day, principal_part, whole_part, installment}

-- the greatest number up to n that passes the test, and 0 where none does
abbrev pub greatest : (ℕ → Bool) → ℕ → ℕ
greatest p zero = 0
greatest p (suc n) = if p (suc n) then suc n else greatest p n

-- what the next j installments from k on ask, each on the balance that those before it leave
unfoldable pub need : Terms → EscrowPlan → EscrowPlan → ℤ → ℕ → ℕ → ℤ
need t plan earlier upb k zero = pos 0
need t plan earlier upb k (suc j) =
    whole_part t plan earlier upb k +ℤ need t plan earlier (upb -ℤ principal_part t upb k) (suc k) j

-- whether the next j installments from k on exist: each has a balance to pay
unfoldable pub they_exist : Terms → ℤ → ℕ → ℕ → Bool
they_exist t upb k zero = true
they_exist t upb k (suc j) = int_lt (pos 0) upb && they_exist t (upb -ℤ principal_part t upb k) (suc k) j

-- how many installments from k on are due by a month
abbrev pub due_count : Terms → ℕ → ℕ → ℕ
due_count t by k = (by + 1) - due_month t k

-- whether suspense covers the next j installments, and they exist
abbrev pub can_move : Terms → Books → ℕ → Bool
can_move t b j = they_exist t b.upb b.next j && int_le (need t b.plan b.earlier b.upb b.next j) b.suspense

-- the greatest number of next installments, due by a month, that suspense covers
unfoldable pub moves : Terms → ℕ → Books → ℕ
moves t by b = greatest (can_move t b) (due_count t by b.next)

-- the books after an installment is paid from suspense
abbrev pub paid_installment : Installment → Books → Books
paid_installment i b = record b {
  suspense = b.suspense -ℤ (i.interest +ℤ i.principal +ℤ i.escrow);
  interest = b.interest +ℤ i.interest;
  fee = b.fee +ℤ i.fee;
  principal = b.principal +ℤ i.principal;
  escrow = b.escrow +ℤ i.escrow;
  upb = b.upb -ℤ i.principal;
  next = suc i.k;
}

-- the books after the open installment is paid
unfoldable pub moved_one : Terms → Books → Books
moved_one t b = paid_installment (installment t b) b

-- whether the open installment is there and due by a month, and suspense covers it
abbrev pub is_movable : Terms → ℕ → Books → Bool
is_movable t by b = nat_le (due_month t b.next) by && can_move t b 1

-- the books after the next j installments are paid from suspense
unfoldable pub moved : Terms → ℕ → Books → Books
moved t zero b = b
moved t (suc j) b = moved t j (moved_one t b)

-- whether an open installment is due on or before a day
abbrev pub is_overdue : Terms → ℕ → Books → Bool
is_overdue t day b = int_lt (pos 0) b.upb && nat_le (due_day t b.next) day

-- the books after late charges are paid, as far as suspense goes
abbrev pub late_paid : Books → Books
late_paid b = record b {
  suspense = b.suspense -ℤ int_min b.suspense b.late_owed;
  late_owed = b.late_owed -ℤ int_min b.suspense b.late_owed;
  late_paid = b.late_paid +ℤ int_min b.suspense b.late_owed;
}

-- late charges are paid only where no installment is overdue
unfoldable pub late_taken : Terms → ℕ → Books → Books
late_taken t day b = if is_overdue t day b then b else late_paid b

-- a loan whose balance came to 0 is satisfied on that day
unfoldable pub marked : ℕ → Books → Books
marked day b = if int_le b.upb (pos 0) && is_none b.satisfied then record b { satisfied = Some day } else b

-- the installments due by a month, as far as suspense covers them, then late charges where none is
-- overdue, and the mark of a loan whose balance came to 0
unfoldable pub settled_by : Terms → ℕ → ℕ → Books → Books
settled_by t by day b = marked day (late_taken t day (moved t (moves t by b) b))

-- the settling that follows each event: its limit is the first day of the next month
abbrev pub settled : Terms → ℕ → Books → Books
settled t day b = settled_by t (month_of day + 1) day b

-- the settling of what is due on or before the day: installments are due on first days of months
abbrev pub due_settled : Terms → ℕ → Books → Books
due_settled t day b = settled_by t (month_of day) day b
