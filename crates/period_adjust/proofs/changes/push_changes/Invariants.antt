use Rattle.std.proofs.Common.{◌≡◌, ◌+◌, ◌≤◌, ◌++◌, length, drop}
use Rattle.period_adjust.specs.Changes.{adjustments_of}
use Rattle.period_adjust.proofs.changes.push_changes.Given as goal

abbrev pub invariant-loop-i : goal.invariant-loop-i
invariant-loop-i l = record {
  adjustments : l.pending.adjustments ++ adjustments_of l.number l.loan (drop l.i l.before) (drop l.i l.after) ≡ l.fn.pending.adjustments ++ adjustments_of l.number l.loan l.before l.after;
  room : l.fn.pending.room + length (adjustments_of l.number l.loan (drop l.i l.before) (drop l.i l.after)) ≤ l.pending.room + length (adjustments_of l.number l.loan l.before l.after);
}
