use Rattle.std.proofs.Common.{◌≡◌, ◌+◌, ◌-◌, ◌++◌, List, length, min, eqb, arith, append-nil, sym, refl, ap, subst, ◌∙◌}
use Rattle.std.specs.List.{All, flat_map}
use Rattle.std.proofs.lemmas.List.Elements.{All-filter}
use Rattle.custodial_book.specs.declared.row.Row.{Row}
use Rattle.custodial_book.specs.Rows.{rows_of_command}
use Rattle.svc_world.specs.Custody.{rows_in}
use Rattle.bank_recon.specs.Items.{items_of}
use Rattle.bank_recon.specs.Moving.{IsMovable}
use Rattle.bank_recon.proofs.SpanLemmas.{items_next, items_all, rows_movable}
use Rattle.bank_recon.proofs.span.items_of_span.Goals as goal

pub loop-done-init : goal.loop-done-init
loop-done-init g c =
    let h = c.args.core.now.history in
    record {
      items = c.in_ok-items.ensures.items ∙ sym (append-nil c.args.carried.now);
      rows = rows_movable h c.history_holds.ensures.history;
    }

pub push_rows-requires : goal.push_rows-requires
push_rows-requires g c =
    let own = All-filter (λ (r : Row). eqb r.number (c.args.first + c.loop-done.done)) IsMovable (rows_in c.args.core.now.history) c.loop-done.invariant.rows in
    subst (λ (rows : List Row). All IsMovable rows) (sym c.rows.ensures) own

pub loop-done-preserved : goal.loop-done-preserved
loop-done-preserved g c =
    let h = c.args.core.now.history in
    let n = c.args.first + c.loop-done.done in
    let inv = c.loop-done.invariant in
    record {
      items = c.in_ok-push_rows.ensures ∙ ap (λ l. c.loop-done.items.items ++ flat_map items_of l) c.rows.ensures
          ∙ ap (λ l. l ++ flat_map items_of (rows_of_command n (rows_in h))) inv.items ∙ sym (items_next c.args.carried.now c.args.first c.loop-done.done n h refl);
      rows = inv.rows;
    }

pub returns : goal.returns
returns g c =
    let h = c.args.core.now.history in
    let is : c.loop-done.done ≡ min c.args.last (length h) - (c.args.first - 1) = omega arith in
    c.loop-done.invariant.items ∙ items_all c.args.carried.now c.args.first c.args.last c.loop-done.done h c.requires.first c.requires.last is
