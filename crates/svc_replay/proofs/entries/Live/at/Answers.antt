use Rattle.std.proofs.Common.{arith, sym, ◌∙◌}
use Rattle.svc_replay.proofs.ChosenLemmas.{count_of, place_within, chosen_there}
use Rattle.svc_replay.proofs.entries.Live.at.Goals as goal

pub standing-requires : goal.standing-requires
standing-requires c =
    let count = count_of c.self.inside.entries c.self.inside.places.now c.args.self.now c.self.invariant c.self.view_is in
    omega (arith, c.requires)

pub at-requires : goal.at-requires
at-requires c =
    let count = count_of c.self.inside.entries c.self.inside.places.now c.args.self.now c.self.invariant c.self.view_is in
    place_within c.self.inside.entries c.self.inside.places.now c.args.place c.standing.result 0 c.self.invariant (omega (arith, c.requires)) (sym (c.standing.ensures 0))

pub returns : goal.returns
returns c =
    let count = count_of c.self.inside.entries c.self.inside.places.now c.args.self.now c.self.invariant c.self.view_is in
    chosen_there c.self.inside.entries c.self.inside.places.now c.args.self.now c.args.place c.standing.result 0 c.at.result c.self.invariant c.self.view_is (omega (arith, c.requires)) (sym (c.standing.ensures 0)) ∙ c.at.ensures
