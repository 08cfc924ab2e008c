-- The bound on the steps of a request: what it may cost to fold the month that it asks for, and those after it.
use Rattle.std.specs.Prelude.{ℕ, ◌+◌, ◌*◌, List, [], ◌∷◌, length}
use Rattle.std.specs.Option.{option_map_or}
use Rattle.svc_base.specs.Calendar.{month_of}
use Rattle.svc_types.specs.declared.account.Entry.{Entry}
use Rattle.svc_types.specs.declared.requests.Command.{Command}
use Rattle.svc_types.specs.declared.requests.Command.TheVariants as command
use Rattle.svc_types.specs.declared.requests.Query.{Query}
use Rattle.svc_spec.specs.Accounts.{begun, entry_of}
use Rattle.svc_spec.specs.Months.{cost_of_month}
use Rattle.svc_world.specs.Held.{Held, find_loan}
use Rattle.svc_core.specs.Costs.{asking_cost}
use Rattle.svc_world.specs.World.{World, Accepted, after, world}
use Rattle.svc_world.specs.Judging.{Judgement, Kept, Refused, Fresh, known, judged}
use Rattle.svc_core.specs.Core.{where_unknown}

-- what a month of a loan costs; nothing where the loan is not there
abbrev pub cost_for : World → ℕ → ℕ → ℕ
cost_for w id month = option_map_or (λ (l : Held). cost_of_month l.account month) (find_loan id w.loans) 0

-- what the month of the entry with a number costs; nothing where there is no such entry
abbrev pub entry_cost : ℕ → Held → ℕ
entry_cost number l =
    option_map_or (λ (e : Entry). cost_of_month l.account (month_of e.day)) (entry_of l.account number) 0

abbrev pub cost_for_entry : World → ℕ → ℕ → ℕ
cost_for_entry w id number = option_map_or (entry_cost number) (find_loan id w.loans) 0

-- what a month costs for all loans
abbrev pub cost_for_all : ℕ → List Held → ℕ
cost_for_all month [] = 0
cost_for_all month (l ∷ ls) = cost_of_month l.account month + cost_for_all month ls

-- the bound of a command without a kept reply, from the worlds before and after it: twice the cost of an
-- entry's month; for a business day the cost of the old day's month for all loans
abbrev pub bound_of : World → World → Command → ℕ
bound_of w later (command.Day d) = cost_for_all (month_of w.today) later.loans
bound_of w later (command.Pay id d c over) = 2 * cost_for later id (month_of d)
bound_of w later (command.Curtail id d c) = 2 * cost_for later id (month_of d)
bound_of w later (command.Payoff id d c) = 2 * cost_for later id (month_of d)
bound_of w later (command.Deposit id d c) = 2 * cost_for later id (month_of d)
bound_of w later (command.Disburse id d c line) = 2 * cost_for later id (month_of d)
bound_of w later (command.Refund id c) = 2 * cost_for later id (month_of w.today)
bound_of w later (command.Waive id c) = 2 * cost_for later id (month_of w.today)
bound_of w later (command.Analyse id plan) = 2 * cost_for later id (month_of w.today)
bound_of w later (command.Reverse id number) = 2 * cost_for_entry later id number
bound_of w later c = 0

-- a command that a rule refuses costs nothing where it is a business day, a boarding or a reversal
abbrev pub bound_refused : World → Command → ℕ
bound_refused w (command.Day d) = 0
bound_refused w (command.Board id t) = 0
bound_refused w (command.Reverse id number) = 0
bound_refused w c = bound_of w w c

-- a fresh boarding costs its boarded month
abbrev pub bound_fresh : World → World → Command → ℕ
bound_fresh w later (command.Board id t) = cost_of_month (begun t w.today) (month_of t.boarded)
bound_fresh w later c = bound_of w later c

abbrev pub bound_by : World → World → Command → Judgement → ℕ
bound_by w later c (Kept reply) = 0
bound_by w later c (Refused why) = bound_refused w c
bound_by w later c Fresh = bound_fresh w later c

-- the bound on the steps of a command after a history: nothing where its key is known
unfoldable pub step_bound : List Accepted → List ℕ → Command → ℕ
step_bound h key c =
    where_unknown (known h key) (bound_by (world h) (after (length h + 1) (world h) c) c (judged h key c))

-- the bound on those of a query
unfoldable pub query_bound : World → Query → ℕ
query_bound w q = asking_cost cost_of_month w q
