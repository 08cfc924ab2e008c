use Rattle.std.proofs.Common.{◌≡◌, length, take, vec_capacity}
use Rattle.svc_world.specs.Reports.{lines_of}
use Rattle.svc_loan.specs.Loans.{held_in}
use Rattle.svc_core.proofs.reporting.fill_lines.Given as goal

abbrev pub invariant-loop-i : goal.invariant-loop-i
invariant-loop-i g l = record {
  lines : l.lines.items ≡ lines_of l.seals.reporting.pending l.month (held_in (take l.i l.loans.loans));
  capacity : vec_capacity l.lines ≡ vec_capacity l.fn.lines;
  end : l.i-end ≡ length l.loans.loans;
  same : l.loans ≡ l.fn.loans;
}
