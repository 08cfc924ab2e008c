use Rattle.std.proofs.Common.{◌≡◌, ◌++◌, take}
use Rattle.std.specs.List.{flat_map}
use Rattle.serv_report.specs.ReportTexts.{text_of_adjustment}
use Rattle.serv_report.proofs.reports.push_adjustments.Given as goal

abbrev pub invariant-loop-adjustment : goal.invariant-loop-adjustment
invariant-loop-adjustment l = l.out.items ≡ l.initial.out.items ++ flat_map text_of_adjustment (take l.adjustment-index l.adjustments)
