-- What is reported of all loans for a month, and what a command changes of months that were reported
-- (Fannie Mae Servicing Guide, investor reporting).
use Rattle.std.specs.Prelude.{ℕ, ◌==◌, ◌&&◌, ◌||◌, not, Bool, nat_le, ℤ, pos, List, [], ◌∷◌, ◌++◌, map, Option, Some, None, ◌-◌}
use Rattle.std.specs.Ordering.{int_eq}
use Rattle.std.specs.List.{filter, list_any}
use Rattle.remit_types.specs.declared.dues.MonthDue.{MonthDue}
use Rattle.period_adjust.specs.declared.adjustment.Adjustment.{Adjustment}
use Rattle.period_adjust.specs.declared.report_line.ReportLine.{ReportLine}
use Rattle.period_adjust.specs.Sealed.{Sealed}
use Rattle.period_adjust.specs.Changes.{adjustments_of}
use Rattle.svc_world.specs.Held.{Held, find_loan, boarded_month}
use Rattle.svc_world.specs.LoanDues.{carry_of, due_of}

abbrev pub is_zero : ℤ → Bool
is_zero z = int_eq z (pos 0)

-- an adjustment of the loan is pending
abbrev pub is_adjusted : List Adjustment → ℕ → Bool
is_adjusted pending id = list_any (λ (a : Adjustment). a.loan == id) pending

-- a loan that was boarded by the month has a line where the month before left a balance, something is
-- due, or an adjustment is pending
abbrev pub is_reported : List Adjustment → ℕ → Held → Bool
is_reported pending p l =
    nat_le (boarded_month l) p && (
    not (is_zero (carry_of l (p - 1)).upb) || not (is_zero (carry_of l (p - 1)).balance)
    || not (is_zero (due_of l p).interest) || not (is_zero (due_of l p).principal)
    || is_adjusted pending l.id)

-- its line, still without the sums of its pending adjustments
abbrev pub line_of : ℕ → Held → ReportLine
line_of p l = record {
  loan = l.id;
  interest = (due_of l p).interest;
  principal = (due_of l p).principal;
  adj_interest = pos 0;
  adj_principal = pos 0;
  upb = (carry_of l p).upb;
  balance = (carry_of l p).balance;
}

-- the lines of all loans, by rising number
unfoldable pub lines_of : List Adjustment → ℕ → List Held → List ReportLine
lines_of pending p loans = map (line_of p) (filter (is_reported pending p) loans)

-- the months that were closed
abbrev pub months_of : List Sealed → List ℕ
months_of reports = map (λ (r : Sealed). r.month) reports

-- nothing is due for a month of a loan that is not there
abbrev pub nothing_due : ℕ → MonthDue
nothing_due month = record { month = month; interest = pos 0; principal = pos 0; balance = pos 0 }

-- what is due for some months
abbrev pub dues_for : List ℕ → Option Held → List MonthDue
dues_for months None = map nothing_due months
dues_for months (Some l) = map (due_of l) months

-- a command's adjustments: for each loan that is there after it and each closed month what the due is
-- then less what it was before, where interest or principal differs
unfoldable pub changes_of : ℕ → List ℕ → List Held → List Held → List Adjustment
changes_of n months before [] = []
changes_of n months before (l ∷ ls) =
    adjustments_of n l.id (dues_for months (find_loan l.id before)) (map (due_of l) months)
    ++ changes_of n months before ls
