use Rattle.std.proofs.Common.{◌≡◌, ◌+◌, ◌++◌, length, refl, arith, sym, ap, subst, ◌∙◌, append-nil}
use Rattle.std.specs.List.{All}
use Rattle.std.proofs.lemmas.List.{length-map}
use Rattle.std.proofs.lemmas.List.Elements.{All-map}
use Rattle.svc_loan.specs.Kept.{KeptLoan}
use Rattle.svc_loan.specs.Loans.{held_in}
use Rattle.svc_custody.specs.Positions.{IsPosition, position_of, totals_in, line_in}
use Rattle.svc_core.specs.State.{world_of}
use Rattle.svc_core.proofs.AcceptLemmas.{AreAdded, can_read, accepted_all, positions_within}
use Rattle.svc_custody.proofs.LineLemmas.{line_of_world}
use Rattle.svc_custody.proofs.EachLemmas.{totals_are}
use Rattle.svc_core.proofs.StillDays.{IsUnmoved, quiet_day}
use Rattle.svc_core.proofs.accepting.accept_all.Given.{Over}
use Rattle.svc_core.proofs.accepting.accept_all.Goals as goal

-- before the rows are added
asked : (g : Over) (c : goal.After-add_all_rows-arg-1 g) → AreAdded c.args.count (world_of c.args.state.now.today c.args.state.now.loans c.args.state.now.seals) (world_of c.change_all-extra.new.state.today c.change_all-extra.new.state.loans c.change_all-extra.new.state.seals) c.args.cash.now.book.rows (totals_in c.args.cash.now.positions.items)
asked g c =
    let s = c.change_all-extra.new.state in
    let w = world_of c.args.state.now.today c.args.state.now.loans c.args.state.now.seals in
    let v = world_of s.today s.loans s.seals in
    accepted_all c.args.count w v c.args.command.now c.args.cash.now.book.rows c.args.cash.now.custody c.args.cash.now.positions.items (totals_in c.args.cash.now.positions.items) c.requires.state.world c.requires.command c.requires.fresh c.requires.scope c.change_all-extra.ensures.world c.requires.cash (ap totals_in c.requires.cash.places ∙ totals_are w w.loans)

pub add_all_rows-requires-clause-read : goal.add_all_rows-requires-clause-read
add_all_rows-requires-clause-read g c =
    let s = c.change_all-extra.new.state in
    can_read (c.args.count + 1) (world_of s.today s.loans s.seals) s.loans.loans (asked g c).later refl c.change_all-extra.ensures.kept

pub add_all_rows-requires-clause-may : goal.add_all_rows-requires-clause-may
add_all_rows-requires-clause-may g c = (asked g c).may

pub add_all_rows-requires-clause-line : goal.add_all_rows-requires-clause-line
add_all_rows-requires-clause-line g c =
    let w = world_of c.args.state.now.today c.args.state.now.loans c.args.state.now.seals in
    c.requires.cash.line ∙ sym (line_of_world w) ∙ ap line_in (sym c.requires.cash.places)

pub add_all_rows-requires-clause-before : goal.add_all_rows-requires-clause-before
add_all_rows-requires-clause-before g c =
    let w = world_of c.args.state.now.today c.args.state.now.loans c.args.state.now.seals in
    subst (All IsPosition) (sym c.requires.cash.places) (All-map IsPosition (position_of w) w.loans (positions_within c.args.count w c.requires.state.world))

pub add_all_rows-requires-clause-room : goal.add_all_rows-requires-clause-room
add_all_rows-requires-clause-room g c =
    let olds = c.args.state.now.loans.loans in
    let news = c.change_all-extra.new.state.loans.loans in
    let count : length (held_in news) ≡ length (held_in olds) = (asked g c).count in
    let room = c.requires.room.rows_room in
    omega (arith, count, room, length-map olds (λ (k : KeptLoan). k.held), length-map news (λ (k : KeptLoan). k.held))

pub returns-clause-rows : goal.returns-clause-rows
returns-clause-rows g c =
    let s = c.change_all-extra.new.state in
    let w = world_of c.args.state.now.today c.args.state.now.loans c.args.state.now.seals in
    let v = world_of s.today s.loans s.seals in
    let are = accepted_all c.args.count w v c.args.command.now c.args.cash.now.book.rows c.args.cash.now.custody c.args.cash.now.positions.items (totals_in c.args.cash.now.positions.items) c.requires.state.world c.requires.command c.requires.fresh c.requires.scope c.change_all-extra.ensures.world c.requires.cash (ap totals_in c.requires.cash.places ∙ totals_are w w.loans) in
    c.add_all_rows.ensures.rows ∙ ap (λ rs. c.args.cash.now.book.rows ++ rs) are.made

-- within the month
unmoved : (g : Over) (c : goal.Then-is_within_month g) → IsUnmoved (c.args.count + 1) (world_of c.args.state.now.today c.args.state.now.loans c.args.state.now.seals) (world_of c.change_all-extra.new.state.today c.change_all-extra.new.state.loans c.change_all-extra.new.state.seals)
unmoved g c =
    let s = c.change_all-extra.new.state in
    let w = world_of c.args.state.now.today c.args.state.now.loans c.args.state.now.seals in
    quiet_day c.args.count w (world_of s.today s.loans s.seals) c.args.command.now c.requires.state.world c.requires.fresh (c.is_within_month.ensures c.if-is_within_month.true) c.change_all-extra.ensures.world

pub returns-then-is_within_month-clause-rows : goal.returns-then-is_within_month-clause-rows
returns-then-is_within_month-clause-rows g c =
    let rows = c.args.cash.now.book.rows in
    sym (append-nil rows) ∙ ap (λ rs. rows ++ rs) (sym (unmoved g c).rows)

pub returns-then-is_within_month-clause-custody : goal.returns-then-is_within_month-clause-custody
returns-then-is_within_month-clause-custody g c = c.requires.cash.line ∙ sym (unmoved g c).line

pub returns-then-is_within_month-clause-positions : goal.returns-then-is_within_month-clause-positions
returns-then-is_within_month-clause-positions g c = c.requires.cash.places ∙ sym (unmoved g c).positions
