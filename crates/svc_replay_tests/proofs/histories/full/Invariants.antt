use Rattle.std.proofs.Common.{◌≡◌, ◌+◌, ◌*◌, ◌<◌}
use Rattle.std.specs.List.{All}
use Rattle.svc_replay_tests.proofs.histories.full.Given as goal

-- the entries so far have lower numbers, and the business day stays
abbrev pub invariant-loop-number : goal.invariant-loop-number
invariant-loop-number g l = record {
  boarded : (g.B.LoanBooks.account l.books).terms.boarded ≡ 31 * (12 * 2023 + 11) + 14;
  entries : All (λ x. x.number < l.number) (g.B.LoanBooks.account l.books).entries;
  today : (g.B.LoanBooks.account l.books).today ≡ l.today;
}
