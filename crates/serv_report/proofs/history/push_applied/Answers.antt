use Rattle.std.proofs.Common.{rules, append_assoc}
use Rattle.std.proofs.lemmas.Result.{IfOk-equal}
use Rattle.serv_report.specs.DeskTexts.{text_of_applied}
use Rattle.serv_report.proofs.history.push_applied.Goals as goal

pub returns-clause-pushed : goal.returns-clause-pushed
unfolding text_of_applied
returns-clause-pushed c = search (rules, IfOk-equal, append_assoc)
