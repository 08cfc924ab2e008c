use Rattle.std.proofs.Common.{◌≡◌, ◌+◌, length}
use Rattle.svc_spec.specs.Events.{folded}
use Rattle.svc_spec.proofs.EventLemmas.{CanFold}
use Rattle.svc_replay.specs.Left.{left, next_late, IsBy}
use Rattle.svc_replay.proofs.folding.fold_left.Given as goal

-- the books take the events that are left, and come with them to what all events come to
abbrev pub invariant-loop-event : goal.invariant-loop-event
invariant-loop-event g l = record {
  next : l.cursor.lates.next ≡ next_late l.terms l.cursor.lates.count;
  by : IsBy l.terms l.live l.day l.fn.cursor.month l.fn.cursor.lates.count l.fn.cursor.entry → IsBy l.terms l.live l.day l.cursor.month l.cursor.lates.count l.cursor.entry;
  can : CanFold l.terms l.books (left l.terms l.live l.day l.cursor.month l.cursor.lates.count l.cursor.entry);
  books : folded l.terms l.books (left l.terms l.live l.day l.cursor.month l.cursor.lates.count l.cursor.entry) ≡ folded l.terms l.fn.books (left l.terms l.live l.day l.fn.cursor.month l.fn.cursor.lates.count l.fn.cursor.entry);
  steps : l.steps + length (left l.terms l.live l.day l.cursor.month l.cursor.lates.count l.cursor.entry) + l.fn.books.next ≡ l.fn.steps + length (left l.terms l.live l.day l.fn.cursor.month l.fn.cursor.lates.count l.fn.cursor.entry) + l.books.next;
}

abbrev pub decreases-loop-event : goal.decreases-loop-event
decreases-loop-event g l = length (left l.terms l.live l.day l.cursor.month l.cursor.lates.count l.cursor.entry)
