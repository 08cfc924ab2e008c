-- What a servicer holds, and what one accepted command makes of it: plain lists. A history of accepted
-- commands is folded from the empty world, one command after another.
use Rattle.std.specs.Prelude.{ℕ, ◌+◌, ◌*◌, List, [], ◌∷◌, ◌++◌, map, Option, Some, None}
use Rattle.svc_base.specs.Calendar.{first_day}
use Rattle.svc_types.specs.declared.account.Act.{Act}
use Rattle.svc_types.specs.declared.account.Act.TheVariants as act
use Rattle.svc_types.specs.declared.account.Entry.{Entry}
use Rattle.svc_types.specs.declared.escrow.Plan.{Plan}
use Rattle.svc_types.specs.declared.requests.Command.{Command}
use Rattle.svc_types.specs.declared.requests.Command.TheVariants as command
use Rattle.period_adjust.specs.Sealed.{Reporting, reporting}
use Rattle.period_adjust.specs.Totals as seals
use Rattle.svc_world.specs.Held.{Held, boarded, with_entry, with_reversal, on_day, with_bill, without_bill, with_type, with_loan, changed}
use Rattle.svc_world.specs.LoanDues.{type_change}
use Rattle.svc_world.specs.Reports.{lines_of, months_of, changes_of}
use Rattle.svc_world.specs.Analysing.{settlement_of}

-- the business day, all loans by rising number, all reports with the pending adjustments, and the month
-- that was remitted last
pub record World : Type 0 where
  pub today : ℕ
  pub loans : List Held
  pub seals : Reporting
  pub remitted : Option ℕ

-- before the first command nothing is held, and the business day is 1990-01-01
abbrev pub first_world : World
first_world = record { today = first_day (12 * 1990); loans = []; seals = reporting [] []; remitted = None }

abbrev pub entry : ℕ → ℕ → Act → Entry
entry n day a = record { number = n; day = day; act = a }

-- a loan with the entry of its analysis on the business day
abbrev pub with_analysis : ℕ → ℕ → Plan → Held → Held
with_analysis n today plan l = with_entry (entry n today (act.Analyse (settlement_of l plan))) l

-- the business day after a command
abbrev pub today_after : ℕ → Command → ℕ
today_after today (command.Day d) = d
today_after today c = today

-- the loans after command n on a business day; its entry has the command's number
unfoldable pub loans_after : ℕ → ℕ → List Held → Command → List Held
loans_after n today loans (command.Day d) = map (on_day d) loans
loans_after n today loans (command.Board id t) = with_loan (boarded id t today) loans
loans_after n today loans (command.Pay id d c over) = changed id (with_entry (entry n d (act.Pay c over))) loans
loans_after n today loans (command.Curtail id d c) = changed id (with_entry (entry n d (act.Curtail c))) loans
loans_after n today loans (command.Payoff id d c) = changed id (with_entry (entry n d (act.Payoff c))) loans
loans_after n today loans (command.Deposit id d c) = changed id (with_entry (entry n d (act.Deposit c))) loans
loans_after n today loans (command.Disburse id d c line) =
    changed id (with_entry (entry n d (act.Disburse c line))) loans
loans_after n today loans (command.Refund id c) = changed id (with_entry (entry n today (act.Refund c))) loans
loans_after n today loans (command.Waive id c) = changed id (with_entry (entry n today (act.Waive c))) loans
loans_after n today loans (command.Reverse id number) = changed id (with_reversal number n) loans
loans_after n today loans (command.Line id line kind month every c) =
    changed id (with_bill (record { id = line; kind = kind; month = month; every = every; cents = c })) loans
loans_after n today loans (command.Drop id line) = changed id (without_bill line) loans
loans_after n today loans (command.Analyse id plan) = changed id (with_analysis n today plan) loans
loans_after n today loans (command.Close p) = loans
loans_after n today loans (command.Remit p) = loans
loans_after n today loans (command.Retype id from kind) = changed id (with_type (type_change from kind)) loans

-- the reports after it: closing a month seals its report, with what is pending; any other command adds its
-- adjustments to those that are pending
unfoldable pub seals_after : ℕ → Reporting → List Held → List Held → Command → Reporting
seals_after n s before later (command.Close p) = seals.after s (seals.Close p (lines_of s.pending p later))
seals_after n s before later c =
    reporting s.reports (s.pending ++ changes_of n (months_of s.reports) before later)

-- the month remitted last
abbrev pub remitted_after : Option ℕ → Command → Option ℕ
remitted_after remitted (command.Remit p) = Some p
remitted_after remitted c = remitted

-- the world after command n, which is accepted
unfoldable pub after : ℕ → World → Command → World
after n w c = record {
  today = today_after w.today c;
  loans = loans_after n w.today w.loans c;
  seals = seals_after n w.seals w.loans (loans_after n w.today w.loans c) c;
  remitted = remitted_after w.remitted c;
}

-- an accepted command, with its key
pub record Accepted : Type 0 where
  pub key : List ℕ
  pub command : Command

abbrev pub accepted : List ℕ → Command → Accepted
accepted key c = record { key = key; command = c }

-- the world after some commands, of which the first has number n + 1
unfoldable pub world_from : ℕ → World → List Accepted → World
world_from n w [] = w
world_from n w (a ∷ more) = world_from (n + 1) (after (n + 1) w a.command) more

-- the world after a history
abbrev pub world : List Accepted → World
world h = world_from 0 first_world h
