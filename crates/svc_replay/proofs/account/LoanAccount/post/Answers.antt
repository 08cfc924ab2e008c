use Rattle.std.proofs.Common.{◌≡◌, ◌∙◌, ◌∷◌, [], ◌++◌, ◌<◌, length, arith, sym, ap}
use Rattle.std.specs.Prelude.{None}
use Rattle.svc_spec.specs.Accounts.{Account}
use Rattle.svc_replay.specs.Kept.{Kept}
use Rattle.svc_replay.proofs.KeptLemmas.{kept_order, kept_posted}
use Rattle.svc_replay.proofs.account.LoanAccount.post.Goals as goal

pub place_of-place-requires : goal.place_of-place-requires
place_of-place-requires c =
    let a : Account = record { terms = c.self.inside.terms; entries = c.self.inside.entries.all; reversals = c.self.inside.reversals.items; today = c.self.inside.today } in
    kept_order a c.self.inside.entries.live c.live.result c.self.inside.reversers.items c.self.invariant c.live.ensures

pub invariant_of-self-2 : goal.invariant_of-self-2
invariant_of-self-2 c =
    let a : Account = record { terms = c.self.inside.terms; entries = c.self.inside.entries.all; reversals = c.self.inside.reversals.items; today = c.self.inside.today } in
    let e = c.args.entry.now in
    let same : c.args.self.now.account ≡ a = ap (λ (k : Kept). k.account) (sym c.self.view_is) in
    let room : length a.entries < 4_096 = omega (arith, ap length c.all.ensures) in
    let noted : c.push_reserved.new.self.items ≡ c.self.inside.reversers.items ++ None ∷ [] = c.push_reserved.ensures.items ∙ ap (λ xs. xs ++ None ∷ []) c.in_ok-make_room.ensures.items in
    let place = rw c.live.ensures at c.place_of-place.ensures.placed in
    kept_posted a c.args.self.now.account e c.self.inside.entries.live c.insert.new.self.live c.insert.new.self.all c.self.inside.reversers.items c.push_reserved.new.self.items c.self.invariant same c.requires c.day-place.ensures.exists room c.in_ok-insert.ensures.all noted (c.in_ok-insert.ensures.live ∙ place)
