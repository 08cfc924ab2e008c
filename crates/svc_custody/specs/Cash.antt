-- What custody holds for a loan, by what is kept of it.
use Rattle.std.specs.Prelude.{◌≡◌, ℕ, ◌+◌, max, ◌&&◌, Bool, map, Option, ℤ, ◌+ℤ◌}
use Rattle.std.specs.Ordering.{int_eq}
use Rattle.std.specs.List.{range_with_len}
use Rattle.svc_base.specs.Sums.{total_by}
use Rattle.svc_spec.specs.Totals.{received, returned, refunded, disbursed}
use Rattle.advance_book.specs.Positions.{pi_held, pi_advanced, pi_residual, escrow_advanced}
use Rattle.custodial_book.specs.declared.row.Totals.{Totals}
use Rattle.svc_world.specs.Held.{books_now, boarded_month}
use Rattle.svc_world.specs.LoanDues.{due_of}
use Rattle.svc_world.specs.Custody.{collected, due_sum, is_remitted_by, remitted_for}
use Rattle.period_adjust.specs.Conditions.{last_month}
use Rattle.period_adjust.specs.Kept.{month_after}
use Rattle.svc_world.specs.World.{World}
use Rattle.svc_loan.specs.Kept.{KeptLoan}

-- what is due for all closed months of a loan
abbrev pub dues_kept : KeptLoan → ℤ
dues_kept k = total_by due_sum (map (due_of k.held) (range_with_len (boarded_month k.held) k.closed))

-- a loan is settled where it is satisfied, the month of that day is remitted, and all that was due is
abbrev pub is_settled_at : Option ℕ → KeptLoan → Bool
is_settled_at remitted k =
    is_remitted_by (books_now k.held).satisfied remitted && int_eq k.remitted (dues_kept k)

-- what custody holds for it of principal and interest
abbrev pub held_at : Option ℕ → KeptLoan → ℤ
held_at remitted k = pi_held (collected (books_now k.held)) k.remitted (is_settled_at remitted k)

abbrev pub advanced_at : Option ℕ → KeptLoan → ℤ
advanced_at remitted k = pi_advanced (collected (books_now k.held)) k.remitted (is_settled_at remitted k)

abbrev pub residual_at : Option ℕ → KeptLoan → ℤ
residual_at remitted k = pi_residual (collected (books_now k.held)) k.remitted (is_settled_at remitted k)

-- its total of each part
unfoldable pub totals_at : Option ℕ → KeptLoan → Totals
totals_at remitted k = record {
  received = received k.held.account;
  returned = returned k.held.account;
  refunded = refunded k.held.account;
  disbursed = disbursed k.held.account;
  collected = (books_now k.held).interest +ℤ (books_now k.held).principal;
  fee = (books_now k.held).fee;
  late = (books_now k.held).late_paid;
  pi_advance = advanced_at remitted k;
  escrow_advance = escrow_advanced (books_now k.held).escrow;
  remitted = k.remitted;
  residual = residual_at remitted k;
}

-- a loan is kept as a world has it: what was remitted for it, and the months that are closed from its boarded one on
pub record IsKeptIn (w : World) (k : KeptLoan) : Type 0 where
  pub remitted : k.remitted ≡ remitted_for w k.held.id
  pub closed : boarded_month k.held + k.closed ≡ max (boarded_month k.held) (month_after (last_month w.seals.reports))
