use Rattle.std.proofs.Common.{◌≡◌, ◌+◌, ◌≤◌, ◌++◌, length, drop}
use Rattle.svc_spec.specs.Books.{start}
use Rattle.svc_spec.specs.Events.{events_to, folded}
use Rattle.svc_spec.specs.History.{passed, lines_of_passed}
use Rattle.svc_spec.proofs.EventLemmas.{CanFold}
use Rattle.svc_replay.specs.Left.{left, next_late}
use Rattle.svc_replay.proofs.history_lines.lines_to.Given as goal

-- the books take the events that are left and come with them to what all events come to; so do the lines so far with
-- those of the events that are left
abbrev pub invariant-loop-event : goal.invariant-loop-event
invariant-loop-event g l = record {
  next : l.cursor.lates.next ≡ next_late l.terms l.cursor.lates.count;
  can : CanFold l.terms l.books (left l.terms l.live l.day l.cursor.month l.cursor.lates.count l.cursor.entry);
  books : folded l.terms l.books (left l.terms l.live l.day l.cursor.month l.cursor.lates.count l.cursor.entry) ≡ folded l.terms (start l.terms) (events_to l.terms l.live l.day);
  entry : l.entry ≤ length l.live;
  lines : l.lines.items ++ lines_of_passed l.terms (passed l.terms l.books (drop l.entry l.live) (left l.terms l.live l.day l.cursor.month l.cursor.lates.count l.cursor.entry)) ≡ lines_of_passed l.terms (passed l.terms (start l.terms) l.live (events_to l.terms l.live l.day));
  steps : l.steps + length (left l.terms l.live l.day l.cursor.month l.cursor.lates.count l.cursor.entry) + 1 ≡ l.fn.steps + length (events_to l.terms l.live l.day) + l.books.next;
}

abbrev pub decreases-loop-event : goal.decreases-loop-event
decreases-loop-event g l = length (left l.terms l.live l.day l.cursor.month l.cursor.lates.count l.cursor.entry)
