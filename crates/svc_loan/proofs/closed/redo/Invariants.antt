use Rattle.std.proofs.Common.{◌≡◌, ◌+◌, ◌-◌, ◌≤◌, min, vec_len, vec_capacity}
use Rattle.svc_base.specs.Calendar.{month_of as month_number}
use Rattle.svc_loan.specs.Closed as rule
use Rattle.svc_loan.proofs.closed.redo.Given as goal

abbrev pub invariant-loop-carries : goal.invariant-loop-carries
invariant-loop-carries g l = record {
  kept : l.carries.items ≡ rule.carries_to (g.B.LoanBooks.account l.books) l.types.changes (vec_len l.carries);
  whole : l.closed ≡ vec_len l.fn.carries;
  least : min l.stay l.closed ≤ vec_len l.carries;
  most : vec_len l.carries ≤ l.closed;
  capacity : vec_capacity l.carries ≡ vec_capacity l.fn.carries;
  steps : l.steps ≤ l.initial.steps + rule.months_cost g.B.LoanBooks.month_cost (g.B.LoanBooks.account l.books) (month_number (g.B.LoanBooks.account l.books).terms.boarded + l.stay) (vec_len l.carries - l.stay);
}

abbrev pub decreases-loop-carries : goal.decreases-loop-carries
decreases-loop-carries g l = l.closed - vec_len l.carries
