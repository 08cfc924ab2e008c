use Rattle.std.proofs.Common.{◌≡◌, ◌+◌, ◌≤◌, ◌++◌, length, arith, refl, sym, ap, subst, ◌∙◌}
use Rattle.std.proofs.lemmas.List.{length-map}
use Rattle.svc_types.specs.declared.requests.Command.TheVariants.{Board}
use Rattle.std.specs.Prelude.{Some}
use Rattle.std.specs.List.{insert}
use Rattle.svc_world.specs.Held.{find_loan}
use Rattle.svc_loan.specs.Loans.{IsPlaceIn, held_in}
use Rattle.svc_custody.specs.Positions.{KeptPositions, IsLine, line_after, position, position_of}
use Rattle.svc_core.specs.State.{world_of}
use Rattle.svc_core.proofs.AcceptLemmas.{IsAdded, can_read, custody_within, accepted_new, later_world}
use Rattle.svc_core.proofs.PlaceLemmas.{insert_here, room_after}
use Rattle.svc_core.proofs.accepting.accept_new.Given.{Over}
use Rattle.svc_core.proofs.accepting.accept_new.Goals as goal

pub position_of-later-requires-clause-read : goal.position_of-later-requires-clause-read
position_of-later-requires-clause-read g c =
    let s = c.change_new-place.new.state in
    let w = world_of c.args.state.now.today c.args.state.now.loans c.args.state.now.seals in
    let v = world_of s.today s.loans s.seals in
    let later = later_world c.args.count w v (Board c.args.id c.args.terms.now) c.requires.state.world c.requires.command c.requires.fresh c.change_new-place.ensures.world in
    can_read (c.args.count + 1) v s.loans.loans later refl c.change_new-place.ensures.kept

pub add_rows-requires-clause-may : goal.add_rows-requires-clause-may
add_rows-requires-clause-may g c =
    let s = c.change_new-place.new.state in
    let w = world_of c.args.state.now.today c.args.state.now.loans c.args.state.now.seals in
    let v = world_of s.today s.loans s.seals in
    (accepted_new c.args.count c.args.id w v c.args.terms.now c.args.cash.now.book.rows c.args.cash.now.custody c.args.cash.now.positions.items c.no_position.result c.position_of-later.result c.requires.state.world c.requires.command c.requires.fresh c.change_new-place.ensures.world c.requires.cash c.no_position.ensures.value (c.position_of-later.ensures.value ∙ ap (λ n. position (world_of c.change_new-place.new.state.today c.change_new-place.new.state.loans c.change_new-place.new.state.seals) (find_loan n (held_in c.change_new-place.new.state.loans.loans))) c.change_new-place.ensures.id) c.no_position.ensures.limits c.position_of-later.ensures.limits).may

pub add_rows-requires-clause-line : goal.add_rows-requires-clause-line
add_rows-requires-clause-line g c = subst IsLine (sym c.requires.cash.line) (custody_within c.args.count (world_of c.args.state.now.today c.args.state.now.loans c.args.state.now.seals) c.requires.state.world)

pub insert-requires-clause-place : goal.insert-requires-clause-place
insert-requires-clause-place g c =
    let s = c.change_new-place.new.state in
    let w = world_of c.args.state.now.today c.args.state.now.loans c.args.state.now.seals in
    let within = room_after c.args.count c.args.id c.index.result w (world_of s.today s.loans s.seals) c.args.terms.now s.loans.loans c.args.cash.now.positions.items c.requires.fresh c.change_new-place.ensures.world refl c.requires.cash.places (subst (λ n. IsPlaceIn n c.change_new-place.new.state.loans.loans (Some c.index.result)) c.change_new-place.ensures.id (subst (λ i. IsPlaceIn c.change_new-place.result.id c.change_new-place.new.state.loans.loans (Some i)) (sym c.index.ensures) c.change_new-place.ensures.place)) in
    subst (λ (p : KeptPositions). c.index.result ≤ length p.items) (sym c.add_rows.ensures.positions) within

pub insert-requires-clause-few : goal.insert-requires-clause-few
insert-requires-clause-few g c =
    let w = world_of c.args.state.now.today c.args.state.now.loans c.args.state.now.seals in
    let count : length c.args.cash.now.positions.items ≡ length w.loans = ap length c.requires.cash.places ∙ length-map w.loans (position_of w) in
    let few = c.requires.state.world.few in
    subst (λ (p : KeptPositions). length p.items ≤ 12_000) (sym c.add_rows.ensures.positions) (omega (arith, count, few))

pub insert-requires-clause-room : goal.insert-requires-clause-room
insert-requires-clause-room g c = subst (λ (p : KeptPositions). 1 ≤ p.room) (sym c.add_rows.ensures.positions) c.requires.room.places_room

-- the rows and the line are those of the command
added : (g : Over) (c : goal.After-insert g) → IsAdded c.args.count c.args.id (world_of c.args.state.now.today c.args.state.now.loans c.args.state.now.seals) (world_of c.change_new-place.new.state.today c.change_new-place.new.state.loans c.change_new-place.new.state.seals) c.args.cash.now.book.rows c.no_position.result c.position_of-later.result
added g c =
    let s = c.change_new-place.new.state in
    let w = world_of c.args.state.now.today c.args.state.now.loans c.args.state.now.seals in
    let v = world_of s.today s.loans s.seals in
    accepted_new c.args.count c.args.id w v c.args.terms.now c.args.cash.now.book.rows c.args.cash.now.custody c.args.cash.now.positions.items c.no_position.result c.position_of-later.result c.requires.state.world c.requires.command c.requires.fresh c.change_new-place.ensures.world c.requires.cash c.no_position.ensures.value (c.position_of-later.ensures.value ∙ ap (λ n. position (world_of c.change_new-place.new.state.today c.change_new-place.new.state.loans c.change_new-place.new.state.seals) (find_loan n (held_in c.change_new-place.new.state.loans.loans))) c.change_new-place.ensures.id) c.no_position.ensures.limits c.position_of-later.ensures.limits

pub returns-clause-rows : goal.returns-clause-rows
returns-clause-rows g c = c.add_rows.ensures.rows ∙ ap (λ rs. c.args.cash.now.book.rows ++ rs) (added g c).made

pub returns-clause-custody : goal.returns-clause-custody
returns-clause-custody g c = c.add_rows.ensures.custody ∙ ap (λ x. line_after x c.no_position.result c.position_of-later.result) c.requires.cash.line ∙ (added g c).line

pub returns-clause-positions : goal.returns-clause-positions
returns-clause-positions g c =
    let s = c.change_new-place.new.state in
    let w = world_of c.args.state.now.today c.args.state.now.loans c.args.state.now.seals in
    let v = world_of s.today s.loans s.seals in
    let later = later_world c.args.count w v (Board c.args.id c.args.terms.now) c.requires.state.world c.requires.command c.requires.fresh c.change_new-place.ensures.world in
    c.insert.ensures
    ∙ ap (λ (p : KeptPositions). insert p.items c.index.result c.position_of-later.result) c.add_rows.ensures.positions
    ∙ insert_here c.args.count c.args.id c.index.result w v c.args.terms.now s.loans.loans c.args.cash.now.positions.items c.position_of-later.result later c.requires.fresh c.change_new-place.ensures.world refl c.requires.cash.places (subst (λ n. IsPlaceIn n c.change_new-place.new.state.loans.loans (Some c.index.result)) c.change_new-place.ensures.id (subst (λ i. IsPlaceIn c.change_new-place.result.id c.change_new-place.new.state.loans.loans (Some i)) (sym c.index.ensures) c.change_new-place.ensures.place)) (c.position_of-later.ensures.value ∙ ap (λ n. position (world_of c.change_new-place.new.state.today c.change_new-place.new.state.loans c.change_new-place.new.state.seals) (find_loan n (held_in c.change_new-place.new.state.loans.loans))) c.change_new-place.ensures.id)
