use Rattle.std.proofs.Common.{◌≡◌, ◌+◌, ◌≤◌, length, drop}
use Rattle.period_adjust.specs.Changes.{adjustments_of}
use Rattle.period_adjust.proofs.changes.count_changes.Given as goal

abbrev pub invariant-loop-i : goal.invariant-loop-i
invariant-loop-i l = record {
  count : l.count + length (adjustments_of 0 0 (drop l.i l.before) (drop l.i l.after)) ≡ length (adjustments_of 0 0 l.before l.after);
  most : l.count ≤ l.i;
}
