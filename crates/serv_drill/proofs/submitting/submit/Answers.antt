use Rattle.std.proofs.Common.{subst, ◌∙◌}
use Rattle.svc_world.specs.Judging.{judged}
use Rattle.svc_core.specs.Core.{IsFault}
use Rattle.serv_drill.specs.Machine.{submitted}
use Rattle.serv_drill.proofs.SubmitLemmas.{submitted_refused}
use Rattle.serv_drill.proofs.submitting.submit.Goals as goal

pub returns-in-Ok-clause-history : goal.returns-in-Ok-clause-history
unfolding submitted
returns-in-Ok-clause-history g c = c.in-Ok.ensures.history

pub returns-in-Err-Refused-clause-history : goal.returns-in-Err-Refused-clause-history
returns-in-Err-Refused-clause-history g c =
    let h = c.args.core.now.history in
    let fault = subst (IsFault (judged h c.args.key.now c.args.command.now)) c.in-Err-Refused.field-0-is c.in-Err-Refused.ensures.fault in
    c.in-Err-Refused.ensures.err ∙ submitted_refused h c.args.key.now c.args.command.now c.in-Err-Refused.field-0-0 fault
