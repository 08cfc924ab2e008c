use Rattle.std.proofs.Common.{◌≡◌, ℕ, ◌+◌, ◌≤◌, [], take}
use Rattle.svc_spec.specs.Accounts.{Account}
use Rattle.svc_spec.specs.Months.{cost_of_month}
use Rattle.serv_journal.specs.Reading.{lines_in}
use Rattle.serv_engine.specs.Histories.{lines_of_history}
use Rattle.serv_engine.specs.Opening.{history_bound}
use Rattle.serv_engine.proofs.replaying.replay.Given as goal

abbrev pub invariant-loop-i : goal.invariant-loop-i
invariant-loop-i g l = record {
  lines : lines_of_history l.core.history ≡ take l.i (lines_in l.frames);
  bound : ((a : Account) (m : ℕ) → g.B.LoanBooks.cost a m ≤ cost_of_month a m)
      → ((a : Account) (m : ℕ) → g.B.LoanBooks.month_cost a m ≡ 0) → l.steps ≤ l.fn.steps + history_bound [] l.core.history;
}
