use Rattle.std.proofs.Common.{◌≡◌, ℕ, ◌<◌, get_or, vec_len}
use Rattle.period_adjust_tests.proofs.many.zeros.Given as goal

abbrev pub invariant-loop-loan : goal.invariant-loop-loan
invariant-loop-loan l = record {
  size : vec_len l.cents ≡ l._loan;
  each : (k : ℕ) → k < l._loan → get_or l.cents.items k 0 ≡ 0;
}
