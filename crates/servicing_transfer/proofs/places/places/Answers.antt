use Rattle.std.proofs.Common.{◌≡◌, ◌+◌, ◌∷◌, ◌++◌, [], arith, sym, ap, ◌∙◌}
use Rattle.svc_world.specs.Judging.{nth_accepted}
use Rattle.servicing_transfer.specs.Parts.{is_since, place_in}
use Rattle.servicing_transfer.specs.Passes.{keeps}
use Rattle.servicing_transfer.specs.Sets.{set_of}
use Rattle.servicing_transfer.proofs.PassLemmas.{place_kept, place_left, places_more}
use Rattle.servicing_transfer.proofs.places.places.Goals as goal
use Rattle.servicing_transfer.proofs.places.places.Goals.{then-is_kept, else-is_kept}

pub loop-done-preserved : goal.loop-done-preserved
loop-done-preserved g c =
    let set = set_of c.args.scope.now.loans in
    let h = c.args.core.now.history in
    let n = c.loop-done.done in
    let inv = c.loop-done.invariant in
    let few = inv.few in
    let was = inv.place in
    let is = sym (c.is_kept.ensures ∙ ap (λ x. keeps set (is_since x) (nth_accepted h (n + 1))) c.requires.least) in
    let next : c.if-is_kept.place ≡ place_in set h (n + 1) = elim c.if-is_kept.branch [
      | then-is_kept w ↦ w.place-is ∙ ap (λ k. k + 1) was ∙ sym (place_kept set h n (is ∙ w.if-is_kept.true))
      | else-is_kept w ↦ w.place-is ∙ was ∙ sym (place_left set h n (is ∙ w.if-is_kept.false))
    ] in
    record {
      places = c.in_ok-push-2.ensures.items ∙ ap (λ xs. xs ++ c.if-is_kept.place ∷ []) inv.places ∙ places_more set h n c.if-is_kept.place next;
      place = next;
      few = elim c.if-is_kept.branch [
        | then-is_kept w ↦ let e = w.place-is in omega (arith, e, few)
        | else-is_kept w ↦ let e = w.place-is in omega (arith, e, few)
      ];
    }
