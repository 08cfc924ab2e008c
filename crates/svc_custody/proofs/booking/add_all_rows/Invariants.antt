use Rattle.std.proofs.Common.{◌≡◌, ◌+◌, ◌*◌, ◌≤◌, ◌++◌, length, take}
use Rattle.std.specs.List.{All}
use Rattle.svc_loan.specs.Loans.{held_in}
use Rattle.svc_custody.specs.Appending.{rows_along}
use Rattle.svc_custody.specs.Positions.{IsPosition, totals_in, line_in}
use Rattle.svc_rules.specs.State.{world_of}
use Rattle.svc_custody.proofs.EachLemmas.{AreMoved}
use Rattle.svc_custody.proofs.booking.add_all_rows.Given as goal

abbrev pub invariant-loop-i : goal.invariant-loop-i
invariant-loop-i g l = record {
  rows : l.cash.book.rows ≡ l.initial.cash.book.rows ++ rows_along l.number (world_of l.state.today l.state.loans l.state.seals) (take l.i (totals_in l.initial.cash.positions.items)) (take l.i (held_in l.state.loans.loans));
  line : l.cash.custody ≡ line_in l.cash.positions.items;
  within : All IsPosition l.cash.positions.items;
  moved : AreMoved (world_of l.state.today l.state.loans l.state.seals) (held_in l.state.loans.loans) l.initial.cash.positions.items l.cash.positions.items l.i;
  spare : 11 * length l.state.loans.loans ≤ l.cash.book.spare + 11 * l.i;
  end : l.i-end ≡ length l.state.loans.loans;
  same : l.state ≡ l.fn.state;
  from : l.i ≤ l.i-end;
}
