use Rattle.std.proofs.Common.{◌≡◌, ◌<◌, length, get_or, arith, sym, ap, subst, ◌∙◌}
use Rattle.std.proofs.Math.ListN.{set}
use Rattle.std.proofs.lemmas.List.{length-map}
use Rattle.svc_custody.specs.Positions.{KeptPositions, no_position}
use Rattle.svc_custody.proofs.ListedLemmas.{set_listed}
use Rattle.svc_custody.proofs.positions.Positions.set.Goals as goal

pub returns : goal.returns
returns c =
    let xs = c.self.inside.items.items in
    let ps = c.self.inside.places.items in
    let i = c.args.place in
    let lower = subst (λ (k : KeptPositions). i < length k.items) (sym c.self.view_is) c.requires in
    let lt : i < length ps = omega (arith, lower, length-map ps (λ j. get_or xs j no_position)) in
    let at : c.from-behind.result ≡ get_or ps i c.index.result.now = c.from-behind.ensures ∙ c.index.ensures in
    set_listed xs ps i c.from-behind.result c.index.result.now c.args.position.now lt at c.self.invariant.within c.self.invariant.apart
    ∙ ap (λ (k : KeptPositions). set k.items i c.args.position.now) c.self.view_is
