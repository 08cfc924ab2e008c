-- What it costs in steps to find why a command is refused, by what each way of keeping books says of a month: cost is
-- that of a call about a month.
use Rattle.std.specs.Prelude.{ℕ}
use Rattle.std.specs.Option.{option_map_or}
use Rattle.svc_base.specs.Calendar.{month_of}
use Rattle.svc_types.specs.declared.requests.Command.{Command}
use Rattle.svc_types.specs.declared.requests.Command.TheVariants as command
use Rattle.svc_spec.specs.Accounts.{Account}
use Rattle.svc_world.specs.Held.{Held, find_loan}
use Rattle.svc_world.specs.World.{World}

-- a month of a loan; nothing where the loan is not there
abbrev pub asking_month : (Account → ℕ → ℕ) → World → ℕ → ℕ → ℕ
asking_month cost w id month = option_map_or (λ (l : Held). cost l.account month) (find_loan id w.loans) 0

-- to find why a command is refused: the books of its day for a curtailment and for a payoff
abbrev pub refusing_cost : (Account → ℕ → ℕ) → World → Command → ℕ
refusing_cost cost w (command.Curtail id d c) = asking_month cost w id (month_of d)
refusing_cost cost w (command.Payoff id d c) = asking_month cost w id (month_of d)
refusing_cost cost w c = 0

-- to test the rules of a command on a loan that is there
abbrev pub rules_cost : (Account → ℕ → ℕ) → Command → Held → ℕ
rules_cost cost (command.Curtail id d c) l = cost l.account (month_of d)
rules_cost cost (command.Payoff id d c) l = cost l.account (month_of d)
rules_cost cost c l = 0
