use Rattle.std.proofs.Common.{◌+◌, sym, ap, ◌∙◌}
use Rattle.svc_world.specs.Judging.{nth_accepted}
use Rattle.pmi_track.specs.Boardings.{with_nth}
use Rattle.pmi_track.proofs.PassLemmas.{terms_more}
use Rattle.pmi_track.proofs.boarded.terms_of.Goals as goal

pub loop-done-preserved : goal.loop-done-preserved
loop-done-preserved g c =
    let id = c.args.loan in
    let h = c.args.core.now.history in
    let n = c.loop-done.done in
    record { terms = c.terms_after-terms.ensures ∙ ap (λ o. with_nth id o (nth_accepted h (n + 1))) c.loop-done.invariant.terms ∙ sym (terms_more id h n) }
