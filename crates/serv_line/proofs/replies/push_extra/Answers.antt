use Rattle.std.proofs.Common.{rules, append_assoc}
use Rattle.std.proofs.lemmas.Result.{IfOk-equal}
use Rattle.serv_line.proofs.replies.push_extra.Goals as goal

pub returns-in_ok-push_signed_field-in-Closed-clause-pushed : goal.returns-in_ok-push_signed_field-in-Closed-clause-pushed
returns-in_ok-push_signed_field-in-Closed-clause-pushed c = search (rules, IfOk-equal, append_assoc)
