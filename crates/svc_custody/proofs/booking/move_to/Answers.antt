use Rattle.std.proofs.Common.{◌≡◌, ◌++◌, get_or, sym, ap, subst, ◌∙◌, append-nil}
use Rattle.std.proofs.Math.ListN.{set}
use Rattle.std.proofs.lemmas.List.{set-get_or}
use Rattle.custodial_book.proofs.RowLemmas.{no_rows}
use Rattle.svc_custody.specs.declared.position.Position.{Position}
use Rattle.svc_custody.specs.Appending.{MayAppend}
use Rattle.svc_custody.specs.Positions.{IsPosition, line_after}
use Rattle.svc_custody.proofs.LineLemmas.{line_stays}
use Rattle.svc_custody.proofs.booking.move_to.Goals as goal

-- what custody held is what it holds then
stays : (c : goal.Then-is_same) (d : Position) → get_or c.args.cash.now.positions.items c.args.place d ≡ c.args.later.now
stays c d = sym (c.at-before.ensures d) ∙ c.is_same.ensures.0 c.if-is_same.true

pub returns-then-is_same-clause-rows : goal.returns-then-is_same-clause-rows
returns-then-is_same-clause-rows c d =
    let rows = c.args.cash.now.book.rows in
    sym (ap (λ rs. rows ++ rs) (no_rows c.args.number c.args.loan _ _ (ap (λ (x : Position). x.totals) (stays c d))) ∙ append-nil rows)

pub returns-then-is_same-clause-custody : goal.returns-then-is_same-clause-custody
returns-then-is_same-clause-custody c d =
    sym (ap (λ x. line_after c.args.cash.now.custody x c.args.later.now) (stays c d) ∙ line_stays c.args.cash.now.custody c.args.later.now)

pub returns-then-is_same-clause-positions : goal.returns-then-is_same-clause-positions
returns-then-is_same-clause-positions c =
    let items = c.args.cash.now.positions.items in
    let later = c.args.later.now in
    sym (ap (set items c.args.place) (sym (stays c later)) ∙ set-get_or items c.args.place later)

pub add_rows-requires-clause-may : goal.add_rows-requires-clause-may
add_rows-requires-clause-may c =
    let x = c.at-before.result.now in
    subst (λ (y : Position). MayAppend c.args.number c.args.loan c.args.cash.now.book.rows y.totals c.args.later.now.totals) (sym (c.at-before.ensures x)) (c.requires.may x)

pub add_rows-requires-clause-before : goal.add_rows-requires-clause-before
add_rows-requires-clause-before c =
    let x = c.at-before.result.now in
    subst IsPosition (sym (c.at-before.ensures x)) (c.requires.before c.args.place x c.requires.place)
