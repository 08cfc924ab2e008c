-- What custody holds for each loan, the rows of a command, and what both accounts hold.
use Rattle.std.specs.Prelude.{ℕ, ◌+◌, ◌&&◌, ◌==◌, nat_le, Bool, false, List, [], ◌∷◌, ◌++◌, map, Option, Some, None, ℤ, pos, ◌+ℤ◌, ◌-ℤ◌, if◌then◌else◌}
use Rattle.std.specs.Ordering.{int_eq}
use Rattle.std.specs.List.{filter}
use Rattle.svc_base.specs.Calendar.{month_of}
use Rattle.svc_base.specs.Sums.{total_by}
use Rattle.svc_types.specs.declared.books.Books.{Books}
use Rattle.svc_spec.specs.Totals.{received, returned, refunded, disbursed}
use Rattle.remit_types.specs.declared.dues.MonthDue.{MonthDue}
use Rattle.period_adjust.specs.declared.report_line.ReportLine.{ReportLine}
use Rattle.period_adjust.specs.Sealed.{Sealed}
use Rattle.advance_book.specs.Positions.{pi_held, pi_advanced, pi_residual, escrow_advanced}
use Rattle.custodial_book.specs.declared.row.Row.{Row}
use Rattle.custodial_book.specs.declared.row.Totals.{Totals}
use Rattle.custodial_book.specs.Rows.{rows_of}
use Rattle.svc_world.specs.declared.custody.Custody.{Custody}
use Rattle.svc_world.specs.Held.{Held, find_loan, books_now}
use Rattle.svc_world.specs.LoanDues.{due_of}
use Rattle.svc_world.specs.Reports.{months_of}
use Rattle.svc_world.specs.World.{World, Accepted, after, first_world}

-- what a report sends for a line: the due of its month and the sums of the adjustments
abbrev pub sent_of_line : ReportLine → ℤ
sent_of_line l = l.interest +ℤ l.principal +ℤ l.adj_interest +ℤ l.adj_principal

-- what it sends for a loan
abbrev pub sent_for : ℕ → Sealed → ℤ
sent_for id r = total_by (λ (l : ReportLine). if l.loan == id then sent_of_line l else pos 0) r.lines

-- the reports that were remitted
abbrev pub remitted_reports : Option ℕ → List Sealed → List Sealed
remitted_reports None reports = []
remitted_reports (Some last) reports = filter (λ (r : Sealed). nat_le r.month last) reports

-- what was remitted for a loan
unfoldable pub remitted_for : World → ℕ → ℤ
remitted_for w id = total_by (sent_for id) (remitted_reports w.remitted w.seals.reports)

-- interest less fee, and principal, that were collected
abbrev pub collected : Books → ℤ
collected b = b.interest -ℤ b.fee +ℤ b.principal

abbrev pub due_sum : MonthDue → ℤ
due_sum d = d.interest +ℤ d.principal

-- what is due of a loan for all closed months, remitted or not
unfoldable pub dues_sum : World → Held → ℤ
dues_sum w l = total_by due_sum (map (due_of l) (months_of w.seals.reports))

-- the month of a day was remitted
abbrev pub is_remitted_by : Option ℕ → Option ℕ → Bool
is_remitted_by None remitted = false
is_remitted_by (Some day) None = false
is_remitted_by (Some day) (Some last) = nat_le (month_of day) last

-- a loan is settled where it is satisfied, the month of that day is remitted, and all that was due for
-- closed months is
unfoldable pub is_settled : World → Held → Bool
is_settled w l =
    is_remitted_by (books_now l).satisfied w.remitted && int_eq (remitted_for w l.id) (dues_sum w l)

-- principal and interest held for a loan, advanced by the servicer, and left over
abbrev pub held_for : World → Held → ℤ
held_for w l = pi_held (collected (books_now l)) (remitted_for w l.id) (is_settled w l)

abbrev pub advanced_for : World → Held → ℤ
advanced_for w l = pi_advanced (collected (books_now l)) (remitted_for w l.id) (is_settled w l)

abbrev pub residual_of : World → Held → ℤ
residual_of w l = pi_residual (collected (books_now l)) (remitted_for w l.id) (is_settled w l)

-- a loan's total of each part
unfoldable pub totals_of : World → Held → Totals
totals_of w l = record {
  received = received l.account;
  returned = returned l.account;
  refunded = refunded l.account;
  disbursed = disbursed l.account;
  collected = (books_now l).interest +ℤ (books_now l).principal;
  fee = (books_now l).fee;
  late = (books_now l).late_paid;
  pi_advance = advanced_for w l;
  escrow_advance = escrow_advanced (books_now l).escrow;
  remitted = remitted_for w l.id;
  residual = residual_of w l;
}

-- before it is taken on a loan moved nothing
abbrev pub no_totals : Totals
no_totals = record {
  received = pos 0;
  returned = pos 0;
  refunded = pos 0;
  disbursed = pos 0;
  collected = pos 0;
  fee = pos 0;
  late = pos 0;
  pi_advance = pos 0;
  escrow_advance = pos 0;
  remitted = pos 0;
  residual = pos 0;
}

abbrev pub totals_before : World → Option Held → Totals
totals_before w None = no_totals
totals_before w (Some l) = totals_of w l

-- the rows of a command for some loans, by what their totals changed by
unfoldable pub rows_between : ℕ → World → World → List Held → List Row
rows_between n before later [] = []
rows_between n before later (l ∷ ls) =
    rows_of n l.id (totals_before before (find_loan l.id before.loans)) (totals_of later l)
    ++ rows_between n before later ls

-- the rows of command n for all loans, by rising number
abbrev pub rows_made : ℕ → World → World → List Row
rows_made n before later = rows_between n before later later.loans

-- the rows of some commands, of which the first has number n + 1
unfoldable pub rows_from : ℕ → World → List Accepted → List Row
rows_from n w [] = []
rows_from n w (a ∷ more) =
    rows_made (n + 1) w (after (n + 1) w a.command) ++ rows_from (n + 1) (after (n + 1) w a.command) more

-- all rows of a history
abbrev pub rows_in : List Accepted → List Row
rows_in h = rows_from 0 first_world h

-- the borrower's money in T, and what the servicer advanced there
abbrev pub borrower_cash : Held → ℤ
borrower_cash l = (books_now l).suspense +ℤ (books_now l).escrow +ℤ escrow_advanced (books_now l).escrow

-- what the custodial line says of all loans
unfoldable pub custody_of : World → Custody
custody_of w = record {
  t = total_by borrower_cash w.loans;
  p = total_by (held_for w) w.loans;
  suspense = total_by (λ (l : Held). (books_now l).suspense) w.loans;
  escrow = total_by (λ (l : Held). (books_now l).escrow) w.loans;
  escrow_advance = total_by (λ (l : Held). escrow_advanced (books_now l).escrow) w.loans;
  held = total_by (held_for w) w.loans;
  pi_advance = total_by (advanced_for w) w.loans;
}
