use Rattle.std.proofs.Common.{◌≡◌, ◌≤◌, ◌+◌, ◌-◌, ◌*◌}
use Rattle.svc_world.specs.Desk as desk
use Rattle.svc_desk.proofs.lateness.days_since.Given as goal

abbrev pub invariant-loop-last : goal.invariant-loop-last
invariant-loop-last l = record {
  until : l.next ≤ l.last;
  days : l.days + desk.days_of_months l.next (l.last - l.next) ≡ desk.days_since l.fn.month l.fn.day;
  few : l.days ≤ 31 * l.next;
}

abbrev pub decreases-loop-last : goal.decreases-loop-last
decreases-loop-last l = l.last - l.next
