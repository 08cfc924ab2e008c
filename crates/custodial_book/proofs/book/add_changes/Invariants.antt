use Rattle.std.proofs.Common.{◌≡◌, ◌+◌, ◌-◌, ◌<◌, ◌≤◌, ◌++◌, length, get_or, take, vec_len, vec_capacity}
use Rattle.std.specs.List.{filter_map}
use Rattle.std.specs.List.Sorted.{IsNonDecreasingBy}
use Rattle.custodial_book.specs.declared.row.Row.{Row}
use Rattle.custodial_book.specs.Parts.{parts}
use Rattle.custodial_book.specs.Rows.{row_of}
use Rattle.custodial_book.proofs.book.add_changes.Given as goal

abbrev pub invariant-loop-k : goal.invariant-loop-k
invariant-loop-k l = record {
  items : l.entries.items ≡ l.fn.entries.items ++ filter_map (row_of l.number l.loan l.before l.after) (take l.k parts);
  room : vec_len l.entries + 11 ≤ vec_capacity l.entries + l.k;
  capacity : vec_capacity l.entries ≡ vec_capacity l.fn.entries;
  rising : IsNonDecreasingBy (λ (row : Row). row.number) l.entries.items;
  last : (d : Row) → 0 < length l.entries.items → (get_or l.entries.items (length l.entries.items - 1) d).number ≤ l.number;
}
