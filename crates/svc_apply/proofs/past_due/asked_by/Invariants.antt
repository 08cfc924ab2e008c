use Rattle.std.proofs.Common.{◌≡◌, ◌+◌, ◌-◌, ◌*◌, ◌≤◌, pos, ◌≤ℤ◌, ◌+ℤ◌}
use Rattle.svc_spec.specs.Books.{HaveSigns}
use Rattle.svc_spec.specs.Arrears.{installments_due, sum_due}
use Rattle.svc_apply.proofs.past_due.asked_by.Given as goal

-- what was asked so far and what is due of those that are left is all that is due
abbrev pub invariant-loop-day : goal.invariant-loop-day
invariant-loop-day g l = record {
  signs : HaveSigns l.terms l.left;
  place : l.books.next + l.asked.installments ≡ l.left.next;
  few : l.asked.installments ≤ 500;
  low : pos 0 ≤ℤ l.asked.sum;
  high : l.asked.sum ≤ℤ pos (400_000_000_000_000 * l.asked.installments);
  count : l.asked.installments + installments_due l.terms l.day l.left ≡ installments_due l.terms l.day l.books;
  sum : l.asked.sum +ℤ sum_due l.terms l.day l.left ≡ sum_due l.terms l.day l.books;
  steps : l.steps + installments_due l.terms l.day l.left ≡ l.fn.steps + installments_due l.terms l.day l.books;
}

abbrev pub decreases-loop-day : goal.decreases-loop-day
decreases-loop-day g l = l.terms.term + 1 - l.left.next
