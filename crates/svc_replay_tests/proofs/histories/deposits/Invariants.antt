use Rattle.std.proofs.Common.{◌≡◌, ◌+◌, ◌*◌, ◌≤◌}
use Rattle.std.specs.List.{All}
use Rattle.svc_replay_tests.proofs.histories.deposits.Given as goal

-- the entries so far have the numbers so far, and the business day is before the month's
abbrev pub invariant-loop-month : goal.invariant-loop-month
invariant-loop-month g l = record {
  boarded : (g.B.LoanBooks.account l.books).terms.boarded ≡ 31 * (12 * 2023 + 11) + 14;
  entries : All (λ x. x.number ≤ 8 * l.month) (g.B.LoanBooks.account l.books).entries;
  until : (g.B.LoanBooks.account l.books).today ≤ 31 * (24_288 + l.month);
}
