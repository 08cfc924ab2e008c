use Rattle.std.proofs.Common.{rules, append_assoc}
use Rattle.std.proofs.lemmas.Result.{IfOk-equal}
use Rattle.serv_line.specs.Replies.{text_of_found}
use Rattle.serv_line.proofs.replies.push_found.Goals as goal

pub returns-clause-pushed : goal.returns-clause-pushed
unfolding text_of_found
returns-clause-pushed c = search (rules, IfOk-equal, append_assoc)
