-- What a command on one loan changes: the entry that it makes, and the dues that it moves.
use Rattle.std.specs.Prelude.{ℕ, ◌+◌, ◌-◌, List, map}
use Rattle.std.specs.Prelude.{Option, Some, None}
use Rattle.std.specs.List.{range_with_len}
use Rattle.svc_types.specs.declared.account.Act.TheVariants as act
use Rattle.svc_types.specs.declared.account.Entry.{Entry}
use Rattle.svc_types.specs.declared.requests.Command.{Command}
use Rattle.svc_types.specs.declared.requests.Command.TheVariants as command
use Rattle.remit_types.specs.declared.dues.MonthDue.{MonthDue}
use Rattle.svc_world.specs.Held.{boarded_month}
use Rattle.svc_world.specs.LoanDues.{due_of}
use Rattle.svc_world.specs.World.{entry}
use Rattle.svc_loan.specs.Kept.{KeptLoan}

-- what is due of a loan, as it is kept, for its closed months from one on
abbrev pub dues_since : ℕ → KeptLoan → List MonthDue
dues_since month k = map (due_of k.held) (range_with_len month (boarded_month k.held + k.closed - month))

-- the entry that command n makes by what it says alone; that of an analysis asks for the loan
abbrev pub entry_made : ℕ → ℕ → Command → Option Entry
entry_made n today (command.Day d) = None
entry_made n today (command.Board id t) = None
entry_made n today (command.Pay id d c over) = Some (entry n d (act.Pay c over))
entry_made n today (command.Curtail id d c) = Some (entry n d (act.Curtail c))
entry_made n today (command.Payoff id d c) = Some (entry n d (act.Payoff c))
entry_made n today (command.Deposit id d c) = Some (entry n d (act.Deposit c))
entry_made n today (command.Disburse id d c line) = Some (entry n d (act.Disburse c line))
entry_made n today (command.Refund id c) = Some (entry n today (act.Refund c))
entry_made n today (command.Waive id c) = Some (entry n today (act.Waive c))
entry_made n today (command.Reverse id number) = None
entry_made n today (command.Line id line kind month every c) = None
entry_made n today (command.Drop id line) = None
entry_made n today (command.Analyse id plan) = None
entry_made n today (command.Close p) = None
entry_made n today (command.Remit p) = None
entry_made n today (command.Retype id from kind) = None
