use Rattle.std.proofs.Common.{◌≡◌, ◌++◌, take}
use Rattle.std.specs.List.{flat_map}
use Rattle.serv_report.specs.ReportTexts.{text_of_line}
use Rattle.serv_report.proofs.reports.push_lines.Given as goal

abbrev pub invariant-loop-line : goal.invariant-loop-line
invariant-loop-line l = l.out.items ≡ l.initial.out.items ++ flat_map text_of_line (take l.line-index l.lines)
