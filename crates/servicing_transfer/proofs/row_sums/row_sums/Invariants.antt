use Rattle.std.proofs.Common.{◌≡◌, ℕ}
use Rattle.std.specs.Prelude.{nat_eq}
use Rattle.std.specs.HashMap.{get}
use Rattle.std.specs.List.{filter}
use Rattle.svc_world.specs.Custody.{rows_in}
use Rattle.servicing_transfer.specs.RowSums.{or_none, kept_sums}
use Rattle.servicing_transfer.proofs.SumLemmas.{up_to}
use Rattle.servicing_transfer.proofs.row_sums.row_sums.Given as goal

abbrev pub invariant-loop-done : goal.invariant-loop-done
invariant-loop-done g l = record {
  sums : (id : ℕ) → or_none (get nat_eq l.sums id) ≡ kept_sums id (filter (up_to l.done) (rows_in l.core.history));
}
