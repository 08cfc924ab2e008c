use Rattle.std.proofs.Common.{◌≡◌, ℕ, take}
use Rattle.std.specs.Prelude.{nat_eq}
use Rattle.std.specs.HashMap.{get}
use Rattle.servicing_transfer.specs.RowSums.{or_none, with_rows}
use Rattle.servicing_transfer.proofs.row_sums.add_rows.Given as goal

abbrev pub invariant-loop-row : goal.invariant-loop-row
invariant-loop-row l = record {
  sums : (id : ℕ) → or_none (get nat_eq l.sums id) ≡ with_rows id (take l.row-index l.rows) (or_none (get nat_eq l.fn.sums id));
}
