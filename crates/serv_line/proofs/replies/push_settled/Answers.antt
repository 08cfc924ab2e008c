use Rattle.std.proofs.Common.{rules, append_assoc}
use Rattle.std.proofs.lemmas.Result.{IfOk-equal}
use Rattle.serv_line.specs.Replies.{text_of_settled}
use Rattle.serv_line.proofs.replies.push_settled.Goals as goal

pub returns-clause-pushed : goal.returns-clause-pushed
unfolding text_of_settled
returns-clause-pushed c = search (rules, IfOk-equal, append_assoc)
