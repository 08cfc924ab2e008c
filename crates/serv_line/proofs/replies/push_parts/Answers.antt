use Rattle.std.proofs.Common.{rules, append_assoc}
use Rattle.std.proofs.lemmas.Result.{IfOk-equal}
use Rattle.serv_line.specs.Replies.{text_of_parts}
use Rattle.serv_line.proofs.replies.push_parts.Goals as goal

pub returns-clause-pushed : goal.returns-clause-pushed
unfolding text_of_parts
returns-clause-pushed c = search (rules, IfOk-equal, append_assoc)
