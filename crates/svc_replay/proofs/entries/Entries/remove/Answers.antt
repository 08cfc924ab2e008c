use Rattle.std.proofs.Common.{◌≡◌, length, vec_len, arith, rules, ap, ◌∙◌}
use Rattle.std.specs.List.{remove}
use Rattle.svc_replay.specs.Chosen.{Ordered, chosen}
use Rattle.svc_replay.proofs.ChosenLemmas.{count_of, chosen_remove}
use Rattle.svc_replay.proofs.entries.Entries.remove.Goals as goal

pub remove-requires : goal.remove-requires
remove-requires c =
    let count = count_of c.self.inside.all.all c.self.inside.live.items c.args.self.now.live c.self.invariant (ap (λ (o : Ordered). o.live) c.self.view_is) in
    let len : vec_len c.self.inside.live ≡ length c.self.inside.live.items = search rules in
    omega (arith, c.requires)

pub returns-clause-live : goal.returns-clause-live
returns-clause-live c =
    ap (chosen c.self.inside.all.all) c.remove.ensures.items
    ∙ chosen_remove c.self.inside.all.all c.self.inside.live.items c.args.place c.self.invariant
    ∙ ap (λ (o : Ordered). remove o.live c.args.place) c.self.view_is
