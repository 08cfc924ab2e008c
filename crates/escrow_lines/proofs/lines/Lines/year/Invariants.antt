use Rattle.std.proofs.Common.{◌≡◌, ℕ, ◌+◌, ◌<◌, length, get_or, pos}
use Rattle.svc_base.specs.EscrowMonths.{IsMonthPaid}
use Rattle.svc_base.specs.Calendar.{number_in_year}
use Rattle.escrow_lines.specs.BillLists.{month_total}
use Rattle.escrow_lines.proofs.lines.Lines.year.Given as goal

abbrev pub invariant-loop-k : goal.invariant-loop-k
invariant-loop-k l = record {
  twelve : length l.year ≡ 12;
  written : (j : ℕ) → j < l.k → get_or l.year j (pos 0) ≡ month_total l.self (number_in_year (l.from + j));
  months : (j : ℕ) → j < l.k → IsMonthPaid (get_or l.year j (pos 0));
}
