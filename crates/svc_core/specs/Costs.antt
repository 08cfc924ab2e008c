-- What a request costs in steps, by what each way of keeping books says of a month: cost is that of a call about
-- a month, and month_cost that of the facts of one.
use Rattle.std.specs.Prelude.{ℕ, ◌+◌, ◌-◌, nat_le, if◌then◌else◌, List}
use Rattle.std.specs.List.{sum_by}
use Rattle.std.specs.Option.{option_map_or}
use Rattle.svc_base.specs.Calendar.{month_of}
use Rattle.svc_types.specs.declared.account.Entry.{Entry}
use Rattle.svc_types.specs.declared.requests.Command.{Command}
use Rattle.svc_types.specs.declared.requests.Command.TheVariants as command
use Rattle.svc_types.specs.declared.requests.Query.{Query}
use Rattle.svc_types.specs.declared.requests.Query.TheVariants as query
use Rattle.svc_spec.specs.Accounts.{Account, begun, entry_of}
use Rattle.svc_spec.specs.Months.{cost_of_month}
use Rattle.period_adjust.specs.Conditions.{last_month}
use Rattle.period_adjust.specs.Kept.{month_after}
use Rattle.svc_world.specs.Held.{Held, find_loan, boarded_month}
use Rattle.svc_world.specs.World.{World}
use Rattle.svc_loan.specs.Closed.{months_cost}
pub use Rattle.svc_rules.specs.Costs.{asking_month, refusing_cost}
use Rattle.svc_desk.specs.Costs.{quote_cost, arrears_cost, aging_cost}

-- to make room for a command that is not refused: the books of a loan that is taken on
abbrev pub preparing_cost : (Account → ℕ → ℕ) → World → Command → ℕ
preparing_cost cost w (command.Board id t) = cost (begun t w.today) (month_of t.boarded)
preparing_cost cost w c = 0

-- a change of a loan from a month on: that month, and the facts of the closed months from it on
abbrev pub changing_cost : (Account → ℕ → ℕ) → (Account → ℕ → ℕ) → World → ℕ → Held → ℕ
changing_cost cost month_cost w month l =
    cost l.account month
    + months_cost month_cost l.account month (month_after (last_month w.seals.reports) - month)

abbrev pub entering_cost : (Account → ℕ → ℕ) → (Account → ℕ → ℕ) → World → ℕ → ℕ → ℕ
entering_cost cost month_cost later id month =
    option_map_or (changing_cost cost month_cost later month) (find_loan id later.loans) 0

-- the reversal of an entry with a number: the entry's month
abbrev pub reversing_cost : (Account → ℕ → ℕ) → (Account → ℕ → ℕ) → World → ℕ → Held → ℕ
reversing_cost cost month_cost w number l =
    option_map_or (λ (e : Entry). changing_cost cost month_cost w (month_of e.day) l) (entry_of l.account number) 0

-- another business day: the old day's month of each loan
abbrev pub advancing_cost : (Account → ℕ → ℕ) → ℕ → List Held → ℕ
advancing_cost cost today later = sum_by (λ (l : Held). cost l.account (month_of today)) later

-- closing a month: its facts for each loan that was boarded by it
abbrev pub closing_cost : (Account → ℕ → ℕ) → ℕ → List Held → ℕ
closing_cost month_cost p loans =
    sum_by (λ (l : Held). if nat_le (boarded_month l) p then month_cost l.account p else 0) loans

-- to accept a command, from the worlds before and after it
abbrev pub accepting_cost : (Account → ℕ → ℕ) → (Account → ℕ → ℕ) → World → World → Command → ℕ
accepting_cost cost month_cost w later (command.Day d) = advancing_cost cost w.today later.loans
accepting_cost cost month_cost w later (command.Board id t) = 0
accepting_cost cost month_cost w later (command.Pay id d c over) = entering_cost cost month_cost later id (month_of d)
accepting_cost cost month_cost w later (command.Curtail id d c) = entering_cost cost month_cost later id (month_of d)
accepting_cost cost month_cost w later (command.Payoff id d c) = entering_cost cost month_cost later id (month_of d)
accepting_cost cost month_cost w later (command.Deposit id d c) = entering_cost cost month_cost later id (month_of d)
accepting_cost cost month_cost w later (command.Disburse id d c line) =
    entering_cost cost month_cost later id (month_of d)
accepting_cost cost month_cost w later (command.Refund id c) =
    entering_cost cost month_cost later id (month_of w.today)
accepting_cost cost month_cost w later (command.Waive id c) =
    entering_cost cost month_cost later id (month_of w.today)
accepting_cost cost month_cost w later (command.Reverse id number) =
    option_map_or (reversing_cost cost month_cost later number) (find_loan id later.loans) 0
accepting_cost cost month_cost w later (command.Line id line kind month every c) = 0
accepting_cost cost month_cost w later (command.Drop id line) = 0
accepting_cost cost month_cost w later (command.Analyse id plan) =
    entering_cost cost month_cost later id (month_of w.today)
accepting_cost cost month_cost w later (command.Close p) = closing_cost month_cost p w.loans
accepting_cost cost month_cost w later (command.Remit p) = 0
accepting_cost cost month_cost w later (command.Retype id from kind) = 0

-- a query: the books of a day cost their month, a history costs that of boarding, and arrears a step for each
-- installment that is due
abbrev pub asking_cost : (Account → ℕ → ℕ) → World → Query → ℕ
asking_cost cost w (query.At id d) = asking_month cost w id (month_of d)
asking_cost cost w (query.Payoff id d) = asking_month cost w id (month_of d)
asking_cost cost w (query.History id) =
    option_map_or (λ (l : Held). cost_of_month l.account (boarded_month l)) (find_loan id w.loans) 0
asking_cost cost w (query.Quote id d) = option_map_or (quote_cost cost d) (find_loan id w.loans) 0
asking_cost cost w (query.Arrears id) = option_map_or (arrears_cost w.today) (find_loan id w.loans) 0
asking_cost cost w query.Aging = aging_cost w.today w.loans
asking_cost cost w q = 0
