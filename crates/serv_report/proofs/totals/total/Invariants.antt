use Rattle.std.proofs.Common.{◌≡◌, ◌*◌, ◌^◌, take}
use Rattle.std.specs.Prelude.{pos, neg_ℤ, ◌≤ℤ◌}
use Rattle.svc_base.specs.Sums.{total_by}
use Rattle.serv_report.specs.Columns.{amount_in}
use Rattle.serv_report.proofs.totals.total.Given as goal

abbrev pub invariant-loop-line : goal.invariant-loop-line
invariant-loop-line l = record {
  value : l.total ≡ total_by (amount_in l.column) (take l.line-index l.lines);
  low : neg_ℤ (pos (2 ^ 64 * l.line-index)) ≤ℤ l.total;
  high : l.total ≤ℤ pos (2 ^ 64 * l.line-index);
}
