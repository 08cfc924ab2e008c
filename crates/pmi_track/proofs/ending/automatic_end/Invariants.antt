use Rattle.std.proofs.Common.{◌≡◌, ℕ, ◌+◌, ◌≤◌, false}
use Rattle.std.specs.List.{range_with_len, sum_by}
use Rattle.svc_base.specs.Calendar.{month_of, first_day}
use Rattle.pmi_track.specs.Insurance.{ends_on}
use Rattle.pmi_track.specs.Loans.{OfLoan}
use Rattle.pmi_track.specs.Schedule.{IsProgress}
use Rattle.pmi_track.proofs.ending.automatic_end.Given as goal

abbrev pub invariant-loop-passed : goal.invariant-loop-passed
invariant-loop-passed g l = record {
  progress : IsProgress l.terms (month_of l.terms.boarded + l.passed) l.progress;
  none : (y : ℕ) → month_of l.terms.boarded + 1 ≤ y → y ≤ month_of l.terms.boarded + l.passed
      → OfLoan l.core.history l.insured.loan (λ a. ends_on a l.insured.value (first_day y) ≡ false);
  steps : OfLoan l.core.history l.insured.loan (λ a. l.steps ≤ l.fn.steps + sum_by (g.B.LoanBooks.cost a) (range_with_len (month_of l.terms.boarded + 1) l.passed));
}
