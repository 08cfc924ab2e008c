use Rattle.std.proofs.Common.{◌-◌, ◌≤◌}
use Rattle.svc_spec.specs.Events.{late_day}
use Rattle.svc_replay.proofs.cursor.lates_by.Given as goal

-- the grace of the installments so far is over
abbrev pub invariant-loop-late : goal.invariant-loop-late
invariant-loop-late l = record {
  few : l.late ≤ l.terms.term;
  over : 1 ≤ l.late → late_day l.terms l.late ≤ l.day;
}

abbrev pub decreases-loop-late : goal.decreases-loop-late
decreases-loop-late l = l.terms.term - l.late
