use Rattle.std.proofs.Common.{◌≡◌, ◌+◌, ◌≤◌, Box, Global, map, take, length, vec_len, vec_capacity}
use Rattle.std.specs.List.{All, sum_by}
use Rattle.svc_loan.specs.Kept.{KeptLoan, IsAhead}
use Rattle.svc_loan.specs.Loans.{closed_by, close_cost}
use Rattle.svc_loan.proofs.EachLemmas.{Done}
use Rattle.svc_loan.proofs.loans.Loans.close.Given as goal

abbrev pub invariant-loop-i : goal.invariant-loop-i
invariant-loop-i g l = record {
  done : Done (λ (b : Box KeptLoan Global). b.value) (λ (k : KeptLoan). k.held) (closed_by l.month) l.initial.self-inside.loans.items l.self-inside.loans.items l.i;
  same_until : l.self-inside.until ≡ l.initial.self-inside.until;
  same_closings : l.self-inside.closings ≡ l.initial.self-inside.closings;
  ahead : All (IsAhead l.initial.self-inside.until l.initial.self-inside.closings) (map (λ (b : Box KeptLoan Global). b.value) l.self-inside.loans.items);
  first : l.self-inside.first ≡ l.initial.self-inside.first;
  end : l.i-end ≡ length l.initial.self-inside.loans.items;
  count : vec_len l.self-inside.loans ≡ vec_len l.initial.self-inside.loans;
  capacity : vec_capacity l.self-inside.loans ≡ vec_capacity l.initial.self-inside.loans;
  steps : l.steps ≤ l.initial.steps + sum_by (close_cost g.B.LoanBooks.month_cost l.month) (map (λ (b : Box KeptLoan Global). b.value) (take l.i l.initial.self-inside.loans.items));
}
