use Rattle.std.proofs.Common.{◌≡◌, Box, Global, map, take, drop, length, vec_len, vec_capacity}
use Rattle.std.specs.List.{All}
use Rattle.svc_base.specs.Calendar.{month_of as month_number}
use Rattle.svc_loan.specs.Kept.{KeptLoan, IsAhead}
use Rattle.svc_loan.proofs.EachLemmas.{AllDone}
use Rattle.svc_loan.proofs.loans.Loans.reserve_each.Given as goal

abbrev pub invariant-loop-i : goal.invariant-loop-i
invariant-loop-i g l = record {
  same : AllDone (λ (k : KeptLoan). k.held) (λ (k : KeptLoan). k.closed) (map (λ (b : Box KeptLoan Global). b.value) l.initial.self-inside.loans.items) (map (λ (b : Box KeptLoan Global). b.value) l.self-inside.loans.items);
  rest : drop l.i l.self-inside.loans.items ≡ drop l.i l.initial.self-inside.loans.items;
  ready : All (IsAhead (month_number l.later) 4) (map (λ (b : Box KeptLoan Global). b.value) (take l.i l.self-inside.loans.items));
  ahead : All (IsAhead l.self-inside.until l.self-inside.closings) (map (λ (b : Box KeptLoan Global). b.value) l.self-inside.loans.items);
  first : l.self-inside.first ≡ l.initial.self-inside.first;
  end : l.i-end ≡ length l.self-inside.loans.items;
  count : vec_len l.self-inside.loans ≡ vec_len l.initial.self-inside.loans;
  capacity : vec_capacity l.self-inside.loans ≡ vec_capacity l.initial.self-inside.loans;
}
