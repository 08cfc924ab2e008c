use Rattle.std.proofs.Common.{◌≡◌, ◌+◌, ◌-◌, ◌≤◌, ◌++◌, map, length, vec_len, vec_capacity}
use Rattle.std.specs.List.{range_with_len}
use Rattle.svc_base.specs.Calendar.{month_of as month_number}
use Rattle.svc_world.specs.LoanDues.{due_in}
use Rattle.svc_loan.proofs.closed.add_dues.Given as goal

abbrev pub invariant-loop-months : goal.invariant-loop-months
invariant-loop-months g l =
    let a = g.B.LoanBooks.account l.books in
    record {
      first : l.boarded ≡ month_number a.terms.boarded;
      least : l.fn.month ≤ l.boarded + l.months;
      left : l.boarded + length l.carries - l.fn.month ≡ (l.boarded + l.months - l.fn.month) + (length l.carries - l.months);
      dues : l.dues.items ≡ l.fn.dues.items ++ map (due_in a l.types.changes) (range_with_len l.fn.month (l.boarded + l.months - l.fn.month));
      count : vec_len l.dues ≡ vec_len l.fn.dues + (l.boarded + l.months - l.fn.month);
      capacity : vec_capacity l.dues ≡ vec_capacity l.fn.dues;
    }

abbrev pub decreases-loop-months : goal.decreases-loop-months
decreases-loop-months g l = length l.carries - l.months
