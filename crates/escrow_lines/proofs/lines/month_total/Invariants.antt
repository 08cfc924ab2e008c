use Rattle.std.proofs.Common.{◌≡◌, ◌*◌, take, pos, ◌≤ℤ◌}
use Rattle.escrow_lines.specs.BillLists.{month_total}
use Rattle.escrow_lines.proofs.lines.month_total.Given as goal

abbrev pub invariant-loop-line : goal.invariant-loop-line
invariant-loop-line l = record {
  so_far : l.total ≡ month_total (take l.line-index l.lines) l.number;
  low : pos 0 ≤ℤ l.total;
  high : l.total ≤ℤ pos (10_000_000_000 * l.line-index);
}
