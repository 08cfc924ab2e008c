use Rattle.std.proofs.Common.{◌≡◌, ℕ, ltb, leb, arith, sym, ap, subst, ◌∙◌, drop, take, take_all, length-drop, length, ◌≤◌, ◌-◌, List, true, false, rules}
use Rattle.std.proofs.lemmas.List.Sorted.{IsPartitionPoint-from_clause, IsPartitionedBy-ltb, IsPartitionedBy-leb, IsNonDecreasingBy-drop}
use Rattle.std.specs.List.Sorted.{IsNonDecreasingBy, IsPartitionPoint}
use Rattle.custodial_book.specs.declared.row.Row.{Row}
use Rattle.custodial_book.specs.Kept.{Kept}
use Rattle.custodial_book.specs.Rows.{rows_of_command}
use Rattle.custodial_book.proofs.RowLemmas.{found_rows}
use Rattle.custodial_book.proofs.book.Book.rows.Goals as goal

pub returns : goal.returns
returns c =
    let rows : List Row = c.self.inside.entries.items in
    let first : ℕ = c.partition_point-first.result in
    let onward : List Row = take (length c.deref-2.result.now - first) (drop first c.deref-2.result.now) in
    let all : onward ≡ drop first rows = take_all _ _ (omega (arith, length-drop first c.deref-2.result.now)) ∙ ap (drop first) c.deref-2.ensures.value in
    let rising : IsNonDecreasingBy (λ (r : Row). r.number) rows = c.self.invariant.rising in
    let rising' : IsNonDecreasingBy (λ (r : Row). r.number) onward = subst (IsNonDecreasingBy (λ (r : Row). r.number)) (sym all) (IsNonDecreasingBy-drop (λ (r : Row). r.number) first rows rising) in
    let same_rows : rows ≡ c.args.self.now.rows = ap (λ (k : Kept). k.rows) c.self.view_is in
    found_rows rows onward c.args.number first c.partition_point.result
    (subst (λ (rs : List Row). first ≤ length rs) c.deref.ensures.value c.partition_point-first.ensures.bound)
    all
    c.partition_point.ensures.bound
    (subst (λ (rs : List Row). IsPartitionPoint (λ (r : Row). ltb r.number c.args.number ≡ true) (λ (r : Row). ltb r.number c.args.number ≡ false) rs first) c.deref.ensures.value (IsPartitionPoint-from_clause (λ (r : Row). ltb r.number c.args.number) c.deref.result.now first c.partition_point-first.ensures.partitioned (IsPartitionedBy-ltb (λ (r : Row). r.number) c.deref.result.now c.args.number (subst (IsNonDecreasingBy (λ (r : Row). r.number)) (sym c.deref.ensures.value) rising)) (λ a r q k. search rules)))
    (IsPartitionPoint-from_clause (λ (r : Row). leb r.number c.args.number) onward c.partition_point.result c.partition_point.ensures.partitioned (IsPartitionedBy-leb (λ (r : Row). r.number) onward c.args.number rising') (λ a r q k. search rules))
    ∙ ap (rows_of_command c.args.number) same_rows
