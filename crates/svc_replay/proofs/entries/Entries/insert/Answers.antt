use Rattle.std.proofs.Common.{◌≡◌, List, ◌∷◌, [], ◌++◌, length, vec_len, arith, rules, sym, ap, subst, ◌∙◌}
use Rattle.svc_types.specs.declared.account.Entry.{Entry}
use Rattle.svc_replay.specs.Chosen.{Ordered, AreWithin, chosen}
use Rattle.svc_replay.proofs.ChosenLemmas.{count_of, more_within, chosen_put}
use Rattle.svc_replay.proofs.entries.Entries.insert.Goals as goal
use Rattle.svc_replay.proofs.entries.Entries.insert.Goals.{After-push_reserved}

pub insert-requires : goal.insert-requires
insert-requires c =
    let count = count_of c.self.inside.all.all c.self.inside.live.items c.args.self.now.live c.self.invariant (ap (λ (o : Ordered). o.live) c.self.view_is) in
    let len : vec_len c.self.inside.live ≡ length c.self.inside.live.items = search rules in
    omega (arith, c.requires.place)

last_is : (c : After-push_reserved) → c.len-last.result ≡ length c.self.inside.all.all
last_is c = c.len-last.ensures ∙ ap length (c.lent.ensures ∙ c.in_ok-reserve.ensures.all)

all_are : (c : After-push_reserved) → c.push_reserved.new.self.all ≡ c.self.inside.all.all ++ c.args.entry.now ∷ []
all_are c = c.push_reserved.ensures.all ∙ ap (λ (xs : List Entry). xs ++ c.args.entry.now ∷ []) c.in_ok-reserve.ensures.all

pub invariant_of-self-2 : goal.invariant_of-self-2
invariant_of-self-2 c =
    subst (λ xs. AreWithin xs c.insert.new.self.items) (sym (all_are c))
    (subst (AreWithin (c.self.inside.all.all ++ c.args.entry.now ∷ [])) (sym c.in_ok-insert.ensures.items)
    (more_within c.self.inside.all.all c.args.entry.now c.self.inside.live.items c.args.place c.len-last.result c.self.invariant (last_is c)))

pub returns-clause-live : goal.returns-clause-live
returns-clause-live c =
    ap (λ xs. chosen xs c.insert.new.self.items) (all_are c)
    ∙ ap (chosen (c.self.inside.all.all ++ c.args.entry.now ∷ [])) c.in_ok-insert.ensures.items
    ∙ chosen_put c.self.inside.all.all c.args.entry.now c.self.inside.live.items c.args.self.now.live c.args.place c.len-last.result c.self.invariant (ap (λ (o : Ordered). o.live) c.self.view_is) (last_is c)
