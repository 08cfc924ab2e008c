-- What borrowers, the investor and the servicer are owed at a moment, over all loans, in cents: custodial cash is that.
use Rattle.std.specs.Prelude.{◌≡◌, List, ℤ, ◌+ℤ◌, ◌-ℤ◌}
use Rattle.svc_base.specs.Sums.{total_by}
use Rattle.svc_types.specs.declared.requests.Query.TheVariants as query
use Rattle.advance_book.specs.Positions.{escrow_advanced}
use Rattle.custodial_book.specs.declared.part.Account.{Account}
use Rattle.custodial_book.specs.declared.part.Account.TheVariants.{T, P}
use Rattle.custodial_book.specs.Rows.{balance_of}
use Rattle.svc_world.specs.declared.custody.Custody.{Custody}
use Rattle.svc_world.specs.declared.answer.Answer.TheVariants as answer
use Rattle.svc_world.specs.Held.{Held, books_now}
use Rattle.svc_world.specs.World.{World, Accepted, world}
use Rattle.svc_world.specs.Custody.{collected, remitted_for, residual_of, advanced_for, rows_in}
use Rattle.svc_world.specs.Answered.{IsAnswerTo}

-- ---- what is owed of a loan

-- a borrower is owed money that is not yet applied, and the escrow balance, which counts below 0 where it is
abbrev pub owed_to_borrower : Held → ℤ
owed_to_borrower l = (books_now l).suspense +ℤ (books_now l).escrow

-- the investor is owed the interest less fee and the principal that were collected, less what was remitted and what a settled
-- loan leaves over; a loan that is remitted ahead counts below 0
abbrev pub owed_to_investor : World → Held → ℤ
owed_to_investor w l = collected (books_now l) -ℤ remitted_for w l.id -ℤ residual_of w l

-- the servicer is owed what it advanced for an escrow balance below 0
abbrev pub advanced_for_escrow : Held → ℤ
advanced_for_escrow l = escrow_advanced (books_now l).escrow

-- ---- what is owed of all loans

abbrev pub borrowers_are_owed : World → ℤ
borrowers_are_owed w = total_by owed_to_borrower w.loans

abbrev pub investor_is_owed : World → ℤ
investor_is_owed w = total_by (owed_to_investor w) w.loans

-- the servicer's advances for escrow, and to the investor
abbrev pub escrow_advances : World → ℤ
escrow_advances w = total_by advanced_for_escrow w.loans

abbrev pub investor_advances : World → ℤ
investor_advances w = total_by (advanced_for w) w.loans

-- what is owed out of an account: in T what borrowers are owed, in P what the investor is, and in either what the servicer
-- advanced
abbrev pub owed_from : Account → World → ℤ
owed_from T w = borrowers_are_owed w +ℤ escrow_advances w
owed_from P w = investor_is_owed w +ℤ investor_advances w

-- what everyone is owed
abbrev pub owed : World → ℤ
owed w = borrowers_are_owed w +ℤ investor_is_owed w +ℤ (escrow_advances w +ℤ investor_advances w)

-- custodial cash after a history, by the rows of its commands and by the custodial line, is what is owed out of each account;
-- so both together are what everyone is owed
pub record IsCashOwed (h : List Accepted) : Type 0 where
  pub t_rows : balance_of T (rows_in h) ≡ owed_from T (world h)
  pub p_rows : balance_of P (rows_in h) ≡ owed_from P (world h)
  pub line : Custody
  pub told : IsAnswerTo h query.Custodial (answer.Custodial line)
  pub t : line.t ≡ owed_from T (world h)
  pub p : line.p ≡ owed_from P (world h)
  pub cash : line.t +ℤ line.p ≡ owed (world h)
  pub net : line.t +ℤ line.p -ℤ (line.escrow_advance +ℤ line.pi_advance)
      ≡ borrowers_are_owed (world h) +ℤ investor_is_owed (world h)
