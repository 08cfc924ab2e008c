-- Sums of adjustments, and the report that they make.
use Rattle.std.specs.Prelude.{ℕ, ◌==◌, if◌then◌else◌, List, map, ℤ, pos}
use Rattle.svc_base.specs.Sums.{total_by}
use Rattle.period_adjust.specs.declared.adjustment.Adjustment.{Adjustment}
use Rattle.period_adjust.specs.declared.report_line.ReportLine.{ReportLine}
use Rattle.period_adjust.specs.Sealed.{Sealed}

-- what is due is interest and principal
pub data DuePart : Type 0 where
  Interest : DuePart
  Principal : DuePart

abbrev pub part_of_adjustment : DuePart → Adjustment → ℤ
part_of_adjustment Interest a = a.interest
part_of_adjustment Principal a = a.principal

-- what an adjustment adds to a loan
abbrev pub share : DuePart → ℕ → Adjustment → ℤ
share p loan a = if a.loan == loan then part_of_adjustment p a else pos 0

-- the line with the sums of the loan's pending adjustments
abbrev pub line_with : List Adjustment → ReportLine → ReportLine
line_with pending line =
    record line {
      adj_interest = total_by (share Interest line.loan) pending;
      adj_principal = total_by (share Principal line.loan) pending;
    }

-- the report of a month: the dues handed in, each with the loan's pending adjustments, and these
abbrev pub report_of : ℕ → List ReportLine → List Adjustment → Sealed
report_of month dues pending =
    record { month = month; lines = map (line_with pending) dues; adjustments = pending }
