use Rattle.std.proofs.Common.{◌≡◌, ◌+◌, ◌<◌, ◌++◌, length, refl, sym, ap, subst, ◌∙◌}
use Rattle.std.proofs.Math.ListN.{set}
use Rattle.std.specs.Prelude.{Some}
use Rattle.custodial_book.specs.Rows.{rows_of}
use Rattle.svc_world.specs.Held.{find_loan}
use Rattle.svc_loan.specs.Kept.{IsReady}
use Rattle.svc_loan.specs.Loans.{IsPlaceIn, held_in}
use Rattle.svc_custody.specs.Positions.{KeptPositions, IsPosition, IsLine, position, line_after}
use Rattle.svc_core.specs.State.{world_of}
use Rattle.svc_core.proofs.AcceptLemmas.{IsAdded, can_read, custody_within, accepted_one, later_world}
use Rattle.svc_core.proofs.PlaceLemmas.{kept_here, place_within, set_here}
use Rattle.svc_core.proofs.accepting.accept_one.Given.{Over}
use Rattle.svc_core.proofs.accepting.accept_one.Goals as goal

pub at-requires : goal.at-requires
at-requires g c =
    let s = c.args.state.now in
    place_within c.args.place.id c.index-index.result (world_of s.today s.loans s.seals) s.loans.loans c.args.cash.now.positions.items refl c.requires.cash.places (subst (λ i. IsPlaceIn c.args.place.id c.args.state.now.loans.loans (Some i)) (sym c.index-index.ensures) c.requires.place)

pub position_of-later-requires-clause-read : goal.position_of-later-requires-clause-read
position_of-later-requires-clause-read g c =
    let s = c.change_one-extra.new.state in
    let w = world_of c.args.state.now.today c.args.state.now.loans c.args.state.now.seals in
    let v = world_of s.today s.loans s.seals in
    let later = later_world c.args.count w v c.args.command.now c.requires.state.world c.requires.command c.requires.fresh c.change_one-extra.ensures.world in
    can_read (c.args.count + 1) v s.loans.loans later refl c.change_one-extra.ensures.kept

-- what was kept is what custody held before
before : (g : Over) (c : goal.After-later-1 g) → (c.at.result.now ≡ position (world_of c.args.state.now.today c.args.state.now.loans c.args.state.now.seals) (find_loan c.args.place.id (held_in c.args.state.now.loans.loans))) × IsPosition c.at.result.now
before g c =
    let s = c.args.state.now in
    kept_here c.args.count c.args.place.id c.index-index.result (world_of s.today s.loans s.seals) s.loans.loans c.args.cash.now.positions.items c.at.result.now c.requires.state.world refl c.requires.cash.places (subst (λ i. IsPlaceIn c.args.place.id c.args.state.now.loans.loans (Some i)) (sym c.index-index.ensures) c.requires.place) c.at.ensures

-- before the rows are added
asked : (g : Over) (c : goal.After-later-1 g) → IsAdded c.args.count c.args.place.id (world_of c.args.state.now.today c.args.state.now.loans c.args.state.now.seals) (world_of c.change_one-extra.new.state.today c.change_one-extra.new.state.loans c.change_one-extra.new.state.seals) c.args.cash.now.book.rows c.at.result.now c.position_of-later.result
asked g c =
    let s = c.change_one-extra.new.state in
    let w = world_of c.args.state.now.today c.args.state.now.loans c.args.state.now.seals in
    let v = world_of s.today s.loans s.seals in
    let old = before g c in
    accepted_one c.args.count c.args.place.id w v c.args.command.now c.args.state.now.loans.loans (IsReady c.args.state.now.today) c.args.cash.now.book.rows c.args.cash.now.custody c.args.cash.now.positions.items c.at.result.now c.position_of-later.result c.requires.state.world c.requires.command c.requires.fresh c.requires.scope refl c.requires.room.loan c.change_one-extra.ensures.world c.requires.cash old.0 c.position_of-later.ensures.value old.1 c.position_of-later.ensures.limits

pub add_rows-requires-clause-may : goal.add_rows-requires-clause-may
add_rows-requires-clause-may g c = rw c.id.ensures ((asked g c).may)

pub add_rows-requires-clause-line : goal.add_rows-requires-clause-line
add_rows-requires-clause-line g c = subst IsLine (sym c.requires.cash.line) (custody_within c.args.count (world_of c.args.state.now.today c.args.state.now.loans c.args.state.now.seals) c.requires.state.world)

pub add_rows-requires-clause-before : goal.add_rows-requires-clause-before
add_rows-requires-clause-before g c = (before g c).1

pub set-requires : goal.set-requires
set-requires g c =
    let s = c.args.state.now in
    let within = place_within c.args.place.id c.index-index.result (world_of s.today s.loans s.seals) s.loans.loans c.args.cash.now.positions.items refl c.requires.cash.places (subst (λ i. IsPlaceIn c.args.place.id c.args.state.now.loans.loans (Some i)) (sym c.index-index.ensures) c.requires.place) in
    subst (λ (p : KeptPositions). c.index-index.result < length p.items) (sym c.add_rows.ensures.positions) within

-- the rows and the line are those of the command
added : (g : Over) (c : goal.After-set g) → IsAdded c.args.count c.args.place.id (world_of c.args.state.now.today c.args.state.now.loans c.args.state.now.seals) (world_of c.change_one-extra.new.state.today c.change_one-extra.new.state.loans c.change_one-extra.new.state.seals) c.args.cash.now.book.rows c.at.result.now c.position_of-later.result
added g c =
    let s = c.change_one-extra.new.state in
    let w = world_of c.args.state.now.today c.args.state.now.loans c.args.state.now.seals in
    let v = world_of s.today s.loans s.seals in
    let old = kept_here c.args.count c.args.place.id c.index-index.result w c.args.state.now.loans.loans c.args.cash.now.positions.items c.at.result.now c.requires.state.world refl c.requires.cash.places (subst (λ i. IsPlaceIn c.args.place.id c.args.state.now.loans.loans (Some i)) (sym c.index-index.ensures) c.requires.place) c.at.ensures in
    accepted_one c.args.count c.args.place.id w v c.args.command.now c.args.state.now.loans.loans (IsReady c.args.state.now.today) c.args.cash.now.book.rows c.args.cash.now.custody c.args.cash.now.positions.items c.at.result.now c.position_of-later.result c.requires.state.world c.requires.command c.requires.fresh c.requires.scope refl c.requires.room.loan c.change_one-extra.ensures.world c.requires.cash old.0 c.position_of-later.ensures.value old.1 c.position_of-later.ensures.limits

pub returns-clause-rows : goal.returns-clause-rows
returns-clause-rows g c = c.add_rows.ensures.rows ∙ ap (λ n. c.args.cash.now.book.rows ++ rows_of (c.args.count + 1) n c.at.result.now.totals c.position_of-later.result.totals) c.id.ensures ∙ ap (λ rs. c.args.cash.now.book.rows ++ rs) (added g c).made

pub returns-clause-custody : goal.returns-clause-custody
returns-clause-custody g c = c.add_rows.ensures.custody ∙ ap (λ x. line_after x c.at.result.now c.position_of-later.result) c.requires.cash.line ∙ (added g c).line

pub returns-clause-positions : goal.returns-clause-positions
returns-clause-positions g c =
    let s = c.change_one-extra.new.state in
    let w = world_of c.args.state.now.today c.args.state.now.loans c.args.state.now.seals in
    let v = world_of s.today s.loans s.seals in
    c.set.ensures
    ∙ ap (λ (p : KeptPositions). set p.items c.index-index.result c.position_of-later.result) c.add_rows.ensures.positions
    ∙ set_here c.args.count c.args.place.id c.index-index.result w v c.args.command.now c.args.state.now.loans.loans c.args.cash.now.positions.items c.position_of-later.result c.requires.state.world c.requires.scope refl c.change_one-extra.ensures.world c.requires.cash.places (subst (λ i. IsPlaceIn c.args.place.id c.args.state.now.loans.loans (Some i)) (sym c.index-index.ensures) c.requires.place) c.position_of-later.ensures.value
