use Rattle.std.proofs.Common.{◌≡◌, ◌*◌, take, pos, ◌≤◌}
use Rattle.escrow_analysis.specs.AggregateAnalysis.{total}
use Rattle.escrow_analysis.proofs.analysis.total_of.Given as goal

abbrev pub invariant-loop-paid : goal.invariant-loop-paid
invariant-loop-paid l = record {
  so_far : total (take l.paid-index l.year) ≡ pos l.total;
  high : l.total ≤ 160_000_000_000 * l.paid-index;
}
