use Rattle.std.proofs.Common.{◌+◌, ◌*◌}
use Rattle.svc_replay_tests.specs.Standing.{StandsAt}
use Rattle.svc_replay_tests.proofs.histories.eight_deposits.Given as goal

-- the deposits so far have the numbers so far
abbrev pub invariant-loop-count : goal.invariant-loop-count
invariant-loop-count g l = StandsAt (g.B.LoanBooks.account l.books) (8 * l.month + l.count) l.today
