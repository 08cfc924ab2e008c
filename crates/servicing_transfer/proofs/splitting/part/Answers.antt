use Rattle.std.proofs.Common.{◌+◌, ◌++◌, ap, ◌∙◌}
use Rattle.svc_world.specs.Judging.{nth_accepted}
use Rattle.servicing_transfer.specs.Parts.{is_since, months_for, place_in}
use Rattle.servicing_transfer.specs.Passes.{part_with, place_among}
use Rattle.servicing_transfer.specs.Sets.{set_of}
use Rattle.servicing_transfer.proofs.PassLemmas.{part_to, among_is, with_same, part_more}
use Rattle.servicing_transfer.proofs.splitting.part.Goals as goal

pub loop-done-preserved : goal.loop-done-preserved
loop-done-preserved g c =
    let set = set_of c.args.loans in
    let h = c.args.core.now.history in
    let n = c.loop-done.done in
    let next = nth_accepted h (n + 1) in
    let places = c.deref.result.now in
    let are = c.deref.ensures.value ∙ c.in_ok-places.ensures in
    record {
      part =
          c.in_ok-push_kept.ensures
          ∙ ap (λ x. x ++ part_with set (is_since c.least_month-least.result) (place_among places) next) c.loop-done.invariant.part
          ∙ ap (λ x. part_to set h n ++ part_with set (is_since x) (place_among places) next) c.least_month-least.ensures
          ∙ ap (λ x. part_to set h n ++ x) (with_same set (months_for set h) (place_among places) (place_in set h) next (λ k. among_is set h places k are))
          ∙ part_more set h n;
    }
