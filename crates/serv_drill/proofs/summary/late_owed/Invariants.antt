use Rattle.std.proofs.Common.{◌≡◌, ◌*◌, ◌^◌, ◌≤◌}
use Rattle.std.specs.Prelude.{pos, neg_ℤ, ◌≤ℤ◌}
use Rattle.serv_drill.specs.Summary.{late_owed}
use Rattle.serv_drill.proofs.summary.late_owed.Given as goal

abbrev pub invariant-loop-i : goal.invariant-loop-i
invariant-loop-i g l = record {
  value : l.late ≡ late_owed l.core.history l.i;
  high : l.late ≤ℤ pos (2 ^ 63 * l.i);
  low : neg_ℤ (pos (2 ^ 63 * l.i)) ≤ℤ l.late;
  steps : l.steps ≤ l.initial.steps;
}
