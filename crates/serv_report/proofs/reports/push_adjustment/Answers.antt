use Rattle.std.proofs.Common.{rules, append_assoc}
use Rattle.std.proofs.lemmas.Result.{IfOk-equal}
use Rattle.serv_report.specs.ReportTexts.{text_of_adjustment}
use Rattle.serv_report.proofs.reports.push_adjustment.Goals as goal

pub returns-clause-pushed : goal.returns-clause-pushed
unfolding text_of_adjustment
returns-clause-pushed c = search (rules, IfOk-equal, append_assoc)
