use Rattle.std.proofs.Common.{◌+◌, sym, ap, ◌∙◌}
use Rattle.svc_world.specs.Judging.{nth_accepted}
use Rattle.servicing_transfer.specs.Passes.{least_with}
use Rattle.servicing_transfer.specs.Sets.{set_of}
use Rattle.servicing_transfer.proofs.PassLemmas.{least_more}
use Rattle.servicing_transfer.proofs.keeping.least_month.Goals as goal

pub loop-done-preserved : goal.loop-done-preserved
loop-done-preserved g c =
    let set = set_of c.args.set.now in
    let h = c.args.core.now.history in
    let n = c.loop-done.done in
    record { least = c.least_after-least.ensures ∙ ap (λ o. least_with set o (nth_accepted h (n + 1))) c.loop-done.invariant.least ∙ sym (least_more set h n) }
