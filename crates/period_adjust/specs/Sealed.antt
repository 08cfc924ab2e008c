-- Reports as they are sent, and the state of all reports.
use Rattle.std.specs.Prelude.{ℕ, List, Option}
use Rattle.period_adjust.specs.declared.adjustment.Adjustment.{Adjustment}
use Rattle.period_adjust.specs.declared.report_line.ReportLine.{ReportLine}

-- a report: its month, its lines, and the adjustments that it sends
pub record Sealed : Type 0 where
  pub month : ℕ
  pub lines : List ReportLine
  pub adjustments : List Adjustment

-- what is kept of investor reporting: all reports, in the order in which their months were closed,
-- and the adjustments that no report has sent
pub record Reporting : Type 0 where
  pub reports : List Sealed
  pub pending : List Adjustment

abbrev pub reporting : List Sealed → List Adjustment → Reporting
reporting reports pending = record { reports = reports; pending = pending }

-- the reporting, the month remitted last, and the room that is kept for reports, for the lines of one,
-- and for adjustments
pub record State : Type 0 where
  pub reporting : Reporting
  pub remitted : Option ℕ
  pub report_room : ℕ
  pub line_room : ℕ
  pub adjustment_room : ℕ
