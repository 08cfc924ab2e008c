use Rattle.std.proofs.Common.{◌≡◌, ◌++◌, take}
use Rattle.std.specs.List.{flat_map}
use Rattle.serv_report.specs.DeskTexts.{text_of_late}
use Rattle.serv_report.proofs.standing.push_late_loans.Given as goal

abbrev pub invariant-loop-loan : goal.invariant-loop-loan
invariant-loop-loan l = l.out.items ≡ l.initial.out.items ++ flat_map text_of_late (take l.loan-index l.late)
