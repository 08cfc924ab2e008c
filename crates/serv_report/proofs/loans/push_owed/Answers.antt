use Rattle.std.proofs.Common.{rules, append_assoc}
use Rattle.std.proofs.lemmas.Result.{IfOk-equal}
use Rattle.serv_report.specs.DeskTexts.{text_of_owed}
use Rattle.serv_report.proofs.loans.push_owed.Goals as goal

pub returns-clause-pushed : goal.returns-clause-pushed
unfolding text_of_owed
returns-clause-pushed c = search (rules, IfOk-equal, append_assoc)
