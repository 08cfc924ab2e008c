use Rattle.std.proofs.Common.{◌≡◌, ◌≤◌, ◌+◌, length, take}
use Rattle.std.specs.List.{sum_by}
use Rattle.svc_loan.specs.Loans.{held_in}
use Rattle.svc_world.specs.Desk.{counts_of, late_loans}
use Rattle.svc_desk.specs.Costs.{arrears_cost}
use Rattle.svc_desk.proofs.aging.aging_answer.Given as goal

abbrev pub invariant-loop-place : goal.invariant-loop-place
invariant-loop-place g l = record {
  late : l.late.items ≡ late_loans l.today (take l.place (held_in l.loans.loans));
  counts : l.counts ≡ counts_of l.today (take l.place (held_in l.loans.loans));
  steps : l.steps ≤ l.initial.steps + sum_by (arrears_cost l.today) (take l.place (held_in l.loans.loans));
  end : l.place-end ≡ length l.loans.loans;
}
