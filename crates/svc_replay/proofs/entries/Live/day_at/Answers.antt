use Rattle.std.proofs.Common.{arith, sym, ap, ◌∙◌}
use Rattle.svc_types.specs.declared.account.Entry.{Entry}
use Rattle.svc_replay.proofs.ChosenLemmas.{count_of, place_within, chosen_there}
use Rattle.svc_replay.proofs.entries.Live.day_at.Goals as goal

pub standing-requires : goal.standing-requires
standing-requires c =
    let count = count_of c.self.inside.entries c.self.inside.places.now c.args.self.now c.self.invariant c.self.view_is in
    omega (arith, c.requires)

pub day_at-requires : goal.day_at-requires
day_at-requires c =
    let count = count_of c.self.inside.entries c.self.inside.places.now c.args.self.now c.self.invariant c.self.view_is in
    place_within c.self.inside.entries c.self.inside.places.now c.args.place c.standing.result 0 c.self.invariant (omega (arith, c.requires)) (sym (c.standing.ensures 0))

pub returns : goal.returns
returns c e =
    let count = count_of c.self.inside.entries c.self.inside.places.now c.args.self.now c.self.invariant c.self.view_is in
    ap (λ (x : Entry). x.day) (chosen_there c.self.inside.entries c.self.inside.places.now c.args.self.now c.args.place c.standing.result 0 e c.self.invariant c.self.view_is (omega (arith, c.requires)) (sym (c.standing.ensures 0))) ∙ c.day_at.ensures e
