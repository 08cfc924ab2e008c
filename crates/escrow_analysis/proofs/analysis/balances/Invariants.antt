use Rattle.std.proofs.Common.{◌≡◌, ℕ, ◌+◌, ◌*◌, ◌<◌, length, get_or, pos, ◌+ℤ◌, ◌≤ℤ◌}
use Rattle.escrow_analysis.specs.AggregateAnalysis.{IsBalance, balance_after}
use Rattle.escrow_analysis.proofs.analysis.balances.Given as goal

abbrev pub invariant-loop-k : goal.invariant-loop-k
invariant-loop-k l = record {
  so_far : l.balance ≡ balance_after l.year (pos l.opening) l.payment l.k;
  low : pos 0 ≤ℤ (l.balance +ℤ pos (160_000_000_000 * l.k));
  high : l.balance ≤ℤ ((pos l.opening) +ℤ pos (160_000_000_000 * l.k));
  twelve : length l.balances ≡ 12;
  bounded : (j : ℕ) → j < l.k → IsBalance (get_or l.balances j (pos 0));
  written : (j : ℕ) → j < l.k → get_or l.balances j (pos 0) ≡ balance_after l.year (pos l.opening) l.payment (j + 1);
}
