-- The installments of a loan (1/01 uniform security instruments, covenant 2, in this product's
-- profile): when each is due, and what it asks of a balance.
use Rattle.std.specs.Prelude.{ℕ, ◌+◌, ◌-◌, ◌==◌, ◌&&◌, nat_lt, nat_le, Bool, Option, Some, None, ℤ, pos, ◌+ℤ◌, ◌-ℤ◌, int_lt, if◌then◌else◌}
use Rattle.std.specs.Int.{int_max}
use Rattle.svc_base.specs.Calendar.{first_day}
use Rattle.svc_base.specs.Money.{month_interest}
use Rattle.svc_types.specs.declared.terms.Terms.{Terms}
use Rattle.svc_types.specs.LevelPayment.{level_principal}
use Rattle.svc_types.specs.declared.escrow.EscrowPlan.{EscrowPlan}
use Rattle.svc_types.specs.declared.books.Books.{Books}
use Rattle.svc_types.specs.declared.books.Installment.{Installment}

-- the month of installment k, which is due on its first day
abbrev pub due_month : Terms → ℕ → ℕ
due_month t k = t.first + (k - 1)

-- the day on which installment k is due
abbrev pub due_day : Terms → ℕ → ℕ
due_day t k = first_day (due_month t k)

-- the interest on a balance
abbrev pub interest_part : Terms → ℤ → ℤ
interest_part t upb = month_interest upb t.rate

-- the servicing fee in it
abbrev pub fee_part : Terms → ℤ → ℤ
fee_part t upb = month_interest upb t.fee

-- the principal of installment k; at the term it is all of the balance
unfoldable pub principal_part : Terms → ℤ → ℕ → ℤ
principal_part t upb k = if k == t.term then upb else level_principal t upb

-- whether an amount that starts with a plan is asked in month m
abbrev pub is_asked : ℕ → ℕ → ℕ → Bool
is_asked start months m = nat_le start m && nat_lt m (start + months)

-- an amount in the months in which it is asked
abbrev pub asked : ℕ → ℕ → ℕ → ℤ → ℤ
asked start months m amount = if is_asked start months m then amount else pos 0

-- what a plan asks for escrow in month m: the base, what a shortage and a deficiency add, less the
-- credit of a surplus in the first year; never below 0
unfoldable pub escrow_of_plan : EscrowPlan → ℕ → ℤ
escrow_of_plan p m =
    int_max (pos 0) (p.base +ℤ asked p.start p.short_months m p.short
    +ℤ asked p.start p.deficient_months m p.deficient -ℤ asked p.start 12 m p.credit)

-- the plan in force for an installment due in month m
abbrev pub plan_in_force : EscrowPlan → EscrowPlan → ℕ → EscrowPlan
plan_in_force plan earlier m = if nat_le plan.start m then plan else earlier

-- the escrow part of an installment due in month m
unfoldable pub escrow_part : EscrowPlan → EscrowPlan → ℕ → ℤ
escrow_part plan earlier m = escrow_of_plan (plan_in_force plan earlier m) m

-- all that installment k asks of a balance
abbrev pub whole_part : Terms → EscrowPlan → EscrowPlan → ℤ → ℕ → ℤ
whole_part t plan earlier upb k =
    interest_part t upb +ℤ principal_part t upb k +ℤ escrow_part plan earlier (due_month t k)

-- the open installment, with its parts
abbrev pub installment : Terms → Books → Installment
installment t b = record {
  k = b.next;
  due = due_day t b.next;
  interest = interest_part t b.upb;
  fee = fee_part t b.upb;
  principal = principal_part t b.upb b.next;
  escrow = escrow_part b.plan b.earlier (due_month t b.next);
}

-- none is open where the loan is satisfied
abbrev pub open_installment : Terms → Books → Option Installment
open_installment t b = if int_lt (pos 0) b.upb then Some (installment t b) else None
