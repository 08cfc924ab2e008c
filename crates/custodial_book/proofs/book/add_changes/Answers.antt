use Rattle.std.proofs.Common.{◌≡◌, ◌<◌, ◌≤◌, ◌++◌, length, get_or, pos, arith, sym, ap, subst, ◌∙◌, append-nil, refl, [], ◌∷◌, Some, None, Vec, Global, vec_len, vec_capacity, List, ◌-◌}
use Rattle.std.proofs.lemmas.Int.{ints}
use Rattle.std.specs.List.Sorted.{IsNonDecreasingBy}
use Rattle.custodial_book.specs.declared.row.Row.{Row}
use Rattle.custodial_book.specs.declared.part.Part.TheVariants.{Received}
use Rattle.custodial_book.specs.Parts.{parts}
use Rattle.custodial_book.proofs.RowLemmas.{last_before, last_of_push, rows_more, rising_push, part_at, no_rows, changed_at, change_bound}
use Rattle.custodial_book.proofs.book.add_changes.Goals as goal
use Rattle.custodial_book.proofs.book.add_changes.Goals.{in-Some, in_default}

pub loop-k-init : goal.loop-k-init
loop-k-init c = record {
  items = sym (append-nil c.args.entries.now.items);
  room = omega arith;
  capacity = refl;
  rising = c.requires.rising;
  last = last_before c.args.entries.now.items c.args.number c.args.loan c.requires.next;
}

pub change-requires-clause-cents : goal.change-requires-clause-cents
change-requires-clause-cents c =
    let changed = changed_at c.args.before.now c.args.after.now c.changes-changes.result c.loop-k.k (pos 0) Received c.changes-changes.ensures.value c.loop-k-test.true in
    let bound = change_bound c.args.before.now c.args.after.now (get_or parts c.loop-k.k Received) c.requires.before c.requires.after in
    (omega (arith, ints, changed, bound), omega (arith, ints, changed, bound))

pub loop-k-preserved : goal.loop-k-preserved
loop-k-preserved c =
    let changed = changed_at c.args.before.now c.args.after.now c.changes-changes.result c.loop-k.k (pos 0) Received c.changes-changes.ensures.value c.loop-k-test.true in
    let bound = change_bound c.args.before.now c.args.after.now (get_or parts c.loop-k.k Received) c.requires.before c.requires.after in
    elim c.match-change.branch [
      | in-Some w ↦
          let push : c.match-change.entries.items ≡ c.loop-k.entries.items ++ w.in-Some.row ∷ [] = ap (λ (v : Vec Row Global). v.items) w.entries-is ∙ w.push_reserved.ensures.items in
          let number : w.in-Some.row.number ≡ c.args.number = w.in-Some.ensures.number in
          record {
            items = rows_more _ c.args.entries.now.items c.loop-k.entries.items c.match-change.entries.items c.loop-k.k _ (Some w.in-Some.row) (omega arith) (part_at c.loop-k.k _ (omega arith)) c.loop-k.invariant.items (w.in-Some.ensures.row c.args.before.now c.args.after.now (omega (arith, ints, changed, bound))) push;
            room = omega (arith, ap vec_len w.entries-is, ap vec_capacity w.entries-is, w.push_reserved.ensures.len, w.push_reserved.ensures.capacity);
            capacity = ap vec_capacity w.entries-is ∙ w.push_reserved.ensures.capacity ∙ c.loop-k.invariant.capacity;
            rising = subst (IsNonDecreasingBy (λ (r : Row). r.number)) (sym push) (rising_push c.loop-k.entries.items w.in-Some.row c.args.number c.loop-k.invariant.rising c.loop-k.invariant.last number);
            last = λ d some. let at : (get_or c.match-change.entries.items (length c.match-change.entries.items - 1) d).number ≡ w.in-Some.row.number = ap (λ (rs : List Row). (get_or rs (length rs - 1) d).number) push ∙ ap (λ (r : Row). r.number) (last_of_push c.loop-k.entries.items w.in-Some.row d) in omega (arith, at, number);
          }
      | in_default w ↦
          let same : c.match-change.entries.items ≡ c.loop-k.entries.items = ap (λ (v : Vec Row Global). v.items) w.entries-is in
          record {
            items = rows_more _ c.args.entries.now.items c.loop-k.entries.items c.match-change.entries.items c.loop-k.k _ None (omega arith) (part_at c.loop-k.k _ (omega arith)) c.loop-k.invariant.items (w.in_default.ensures.row c.args.before.now c.args.after.now (omega (arith, ints, changed, bound))) (same ∙ sym (append-nil c.loop-k.entries.items));
            room = omega (arith, ap vec_len w.entries-is, ap vec_capacity w.entries-is);
            capacity = ap vec_capacity w.entries-is ∙ c.loop-k.invariant.capacity;
            rising = subst (IsNonDecreasingBy (λ (r : Row). r.number)) (sym same) c.loop-k.invariant.rising;
            last = subst (λ (rs : List Row). (d : Row) → 0 < length rs → (get_or rs (length rs - 1) d).number ≤ c.args.number) (sym same) c.loop-k.invariant.last;
          }
    ]

pub returns-then-are_same-clause-items : goal.returns-then-are_same-clause-items
returns-then-are_same-clause-items c =
    let same = c.are_same.ensures.0 c.if-are_same.true in
    sym (append-nil c.args.entries.now.items) ∙ ap (λ rs. c.args.entries.now.items ++ rs) (sym (no_rows c.args.number c.args.loan c.args.before.now c.args.after.now same))
