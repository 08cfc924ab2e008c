use Rattle.std.proofs.Common.{rules, append_assoc}
use Rattle.std.proofs.lemmas.Result.{IfOk-equal}
use Rattle.serv_report.specs.EscrowText.{text_of_balances_in}
use Rattle.serv_report.proofs.analyses.push_balances.Goals as goal

pub returns-clause-pushed : goal.returns-clause-pushed
unfolding text_of_balances_in
returns-clause-pushed c = search (rules, IfOk-equal, append_assoc)
