use Rattle.std.proofs.Common.{rules, vec_len, ◌≡◌, ◌≤◌, [], ◌∷◌, ◌++◌, length, get_or, arith, sym, ap, subst, ◌∙◌}
use Rattle.std.specs.List.{insert}
use Rattle.std.proofs.lemmas.List.{length-map}
use Rattle.svc_custody.specs.Positions.{KeptPositions, ArePlaces, listed, no_position}
use Rattle.svc_custody.proofs.ListedLemmas.{insert_listed, places_with}
use Rattle.svc_custody.proofs.positions.Positions.insert.Goals as goal

-- the place is one of those, or behind them
within : (c : goal.In-Ok) → c.args.place ≤ length c.self.inside.places.items
within c =
    let xs = c.self.inside.items.items in
    let ps = c.self.inside.places.items in
    let le = subst (λ (k : KeptPositions). c.args.place ≤ length k.items) (sym c.self.view_is) c.requires.place in
    omega (arith, le, length-map ps (λ j. get_or xs j no_position))

placed : (c : goal.In-Ok) → c.insert.new.self.items ≡ insert c.self.inside.places.items c.args.place (length c.self.inside.items.items)
placed c =
    let count : vec_len c.self.inside.items ≡ length c.self.inside.items.items = search rules in
    c.in-Ok.ensures.items ∙ ap (insert c.self.inside.places.items c.args.place) (c.len-behind.ensures ∙ count)

pub invariant_of-self : goal.invariant_of-self
invariant_of-self c =
    let xs = c.self.inside.items.items in
    let ps = c.self.inside.places.items in
    let y = c.args.position.now in
    subst (λ zs. ArePlaces zs c.insert.new.self.items) (sym c.push_reserved.ensures.items)
    (subst (λ qs. ArePlaces (xs ++ y ∷ []) qs) (sym (placed c)) (places_with xs ps c.args.place y (within c) c.self.invariant))

pub returns : goal.returns
returns c =
    let xs = c.self.inside.items.items in
    let ps = c.self.inside.places.items in
    let y = c.args.position.now in
    ap (λ zs. listed zs c.insert.new.self.items) c.push_reserved.ensures.items
    ∙ ap (listed (xs ++ y ∷ [])) (placed c)
    ∙ insert_listed xs ps c.args.place y (within c) c.self.invariant.within
    ∙ ap (λ (k : KeptPositions). insert k.items c.args.place y) c.self.view_is
