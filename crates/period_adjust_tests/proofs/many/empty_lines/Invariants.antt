use Rattle.std.proofs.Common.{◌≡◌, ℕ, ◌<◌, get_or, vec_len}
use Rattle.period_adjust.specs.declared.report_line.ReportLine.{ReportLine}
use Rattle.period_adjust_tests.specs.WorkedMany.{empty_line}
use Rattle.period_adjust_tests.proofs.many.empty_lines.Given as goal

abbrev pub invariant-loop-loan : goal.invariant-loop-loan
invariant-loop-loan l = record {
  size : vec_len l.lines ≡ l.loan;
  each : (k : ℕ) (d : ReportLine) → k < l.loan → get_or l.lines.items k d ≡ empty_line k;
}
