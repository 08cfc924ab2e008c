use Rattle.std.proofs.Common.{ℕ, ℤ, ◌<◌, ◌≤◌, pos, get_or, ◌+ℤ◌, ◌≤ℤ◌}
use Rattle.std.specs.List.{All}
use Rattle.escrow_analysis.proofs.analysis.least_opening.Given as goal

abbrev pub invariant-loop-balance : goal.invariant-loop-balance
invariant-loop-balance l = record {
  above : l.cushion ≤ l.opening;
  high : l.opening ≤ 2_240_000_000_000;
  keeps : (k : ℕ) → k < l.balance-index → pos l.cushion ≤ℤ (pos l.opening +ℤ get_or l.trial k (pos 0));
  least : (other : ℤ) → pos l.cushion ≤ℤ other → All (λ balance. pos l.cushion ≤ℤ (other +ℤ balance)) l.trial → pos l.opening ≤ℤ other;
}
