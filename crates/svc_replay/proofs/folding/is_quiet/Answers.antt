use Rattle.std.proofs.Common.{◌∙◌, arith}
use Rattle.svc_spec.specs.Events.{events_to}
use Rattle.svc_replay.specs.Left.{left}
use Rattle.svc_replay.proofs.AfterLemmas.{past_left}
use Rattle.svc_replay.proofs.LastLemmas.{none_past, nothing_follows}
use Rattle.svc_replay.proofs.folding.is_quiet.Goals as goal

pub returns : goal.returns
returns c quiet =
    let t = c.args.terms.now in
    let live = c.args.live.now in
    let at = c.after-cursor.result in
    let rest = c.next.new.self in
    let none = nothing_follows c.next.result (left t live c.args.until at.month at.lates.count at.entry) (left t live c.args.until rest.month rest.lates.count rest.entry) c.is_none.result c.next.ensures.follows c.is_none.ensures quiet in
    none_past c.args.day (events_to t live c.args.until) (past_left t live c.args.day c.args.until at.month at.lates.count at.entry c.requires.terms (omega arith) c.requires.later c.after-cursor.ensures.after ∙ none)
