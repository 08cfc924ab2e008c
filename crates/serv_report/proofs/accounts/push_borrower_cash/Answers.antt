use Rattle.std.proofs.Common.{rules, append_assoc}
use Rattle.std.proofs.lemmas.Result.{IfOk-equal}
use Rattle.serv_report.specs.Texts.{text_of_borrower_cash}
use Rattle.serv_report.proofs.accounts.push_borrower_cash.Goals as goal

pub returns-clause-pushed : goal.returns-clause-pushed
unfolding text_of_borrower_cash
returns-clause-pushed c = search (rules, IfOk-equal, append_assoc)
