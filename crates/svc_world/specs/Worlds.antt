-- What holds of everything that accepted commands can have made.
use Rattle.std.specs.Prelude.{◌≡◌, ℕ, ◌+◌, ◌<◌, ◌≤◌, List, [], ◌∷◌, length, take, Option, Some, None, IfSome, ℤ, pos, ◌+ℤ◌, ◌≤ℤ◌}
use Rattle.std.specs.List.{All, AllPairs}
use Rattle.svc_base.specs.Calendar.{IsReadDay, last_day}
use Rattle.svc_base.specs.Sums.{total_by}
use Rattle.svc_types.specs.declared.account.Act.{Act}
use Rattle.svc_types.specs.declared.account.Act.TheVariants.{Pay, Curtail, Payoff, Deposit, Disburse, Refund, Waive, Analyse}
use Rattle.svc_types.specs.declared.account.Entry.{Entry}
use Rattle.svc_types.specs.declared.requests.TypeChange.{TypeChange}
use Rattle.svc_spec.specs.Accounts.{Account, IsAccount}
use Rattle.svc_spec.specs.Totals.{received, refunded}
use Rattle.escrow_lines.specs.BillLists.{AreLines}
use Rattle.remit_types.specs.declared.dues.MonthDue.{MonthDue}
use Rattle.period_adjust.specs.declared.adjustment.Adjustment.{Adjustment}
use Rattle.period_adjust.specs.declared.report_line.ReportLine.{ReportLine}
use Rattle.period_adjust.specs.Sealed.{Sealed, Reporting}
use Rattle.period_adjust.specs.Sums.{DuePart}
use Rattle.period_adjust.specs.Totals.{total, part_of_due, SendsItsSums, lined, summed}
use Rattle.period_adjust.specs.Conditions.{first_month, last_month, count_held, IsClosed}
use Rattle.period_adjust.specs.Kept.{AreSealed, month_after}
use Rattle.svc_world.specs.Held.{Held, find_loan, boarded_month}
use Rattle.svc_world.specs.LoanDues.{due_of}
use Rattle.svc_world.specs.Reports.{nothing_due}
use Rattle.svc_world.specs.World.{World, Accepted, after}

-- an amount that an accepted entry has: 0 to 10^10 cents; what an analysis refunds is a surplus, so at most
-- what 4,096 entries can have brought in
pub record IsNamedAmount (z : ℤ) : Type 0 where
  pub low : pos 0 ≤ℤ z
  pub high : z ≤ℤ pos 10_000_000_000

pub record IsNamedRefund (z : ℤ) : Type 0 where
  pub low : pos 0 ≤ℤ z
  pub high : z ≤ℤ pos 40_960_000_000_000

abbrev pub IsNamedAct : Act → Type 0
IsNamedAct (Pay c over) = IsNamedAmount c
IsNamedAct (Curtail c) = IsNamedAmount c
IsNamedAct (Payoff c) = IsNamedAmount c
IsNamedAct (Deposit c) = IsNamedAmount c
IsNamedAct (Disburse c line) = IsNamedAmount c
IsNamedAct (Refund c) = IsNamedAmount c
IsNamedAct (Waive c) = IsNamedAmount c
IsNamedAct (Analyse s) = IsNamedRefund s.refund

-- an account whose entries were accepted: what was refunded had been received
pub record IsLimited (a : Account) : Type 0 where
  pub account : IsAccount a
  pub named : All (λ (e : Entry). IsNamedAct e.act) a.entries
  pub covered : refunded a ≤ℤ received a

-- a loan after n commands, on a business day
pub record IsHeld (n day : ℕ) (l : Held) : Type 0 where
  pub limited : IsLimited l.account
  pub today : l.account.today ≡ day
  pub numbers : All (λ (e : Entry). e.number ≤ n) l.account.entries
  pub lines : AreLines l.lines
  pub types : length l.types ≤ 64
  pub since : All (λ (c : TypeChange). boarded_month l ≤ c.from) l.types

-- what is due of a loan for a month; nothing of one that is not there
abbrev pub due_by : Option Held → ℕ → MonthDue
due_by None month = nothing_due month
due_by (Some l) month = due_of l month

-- for each closed month and each number what was reported, what was adjusted and sent, and what is pending
-- add up to what is now due
abbrev pub AddUp : Reporting → List Held → Type 0
AddUp s loans =
    (part : DuePart) (id p : ℕ) → p < month_after (last_month s.reports) →
    total part id p s ≡ part_of_due part (due_by (find_loan id loans) p)

-- a loan is there, and was boarded by a month
pub record IsThere (loans : List Held) (id month : ℕ) : Type 0 where
  pub loan : Held
  pub found : find_loan id loans ≡ Some loan
  pub since : boarded_month loan ≤ month

-- the loan of an adjustment is there, and was boarded by its month
abbrev pub IsOwned : List Held → Adjustment → Type 0
IsOwned loans a = IsThere loans a.loan a.month

-- the loan of a line is there, and was boarded by the report's month
abbrev pub IsListed : List Held → ℕ → ReportLine → Type 0
IsListed loans month line = IsThere loans line.loan month

-- what reports sent of a part for a loan lies from 0 to what 4,096 entries can have brought in
pub record IsPassed (z : ℤ) : Type 0 where
  pub low : pos 0 ≤ℤ z
  pub high : z ≤ℤ pos 40_960_000_000_000

-- what a report sends of a part for a loan
abbrev pub sent_part : DuePart → ℕ → Sealed → ℤ
sent_part part id r = total_by (lined part id) r.lines +ℤ total_by (summed part id) r.lines

pub record AreReports (w : World) : Type 0 where
  pub sealed : AreSealed w.seals
  pub few : length w.seals.reports ≤ 600
  pub held : count_held w.seals ≤ 4_000_000
  pub ended : IfSome (last_month w.seals.reports) (λ last. last_day last < w.today)
  pub from_first : IfSome (first_month w.seals.reports) (λ first. All (λ (l : Held). first ≤ boarded_month l) w.loans)
  pub owned : All (IsOwned w.loans) w.seals.pending
  pub listed : All (λ (r : Sealed). All (IsListed w.loans r.month) r.lines) w.seals.reports
  pub remitted : IfSome w.remitted (IsClosed w.seals.reports)
  pub in_order : All (λ (r : Sealed). AllPairs (λ (l m : ReportLine). l.loan < m.loan) r.lines) w.seals.reports
  pub sends : All SendsItsSums w.seals.reports
  pub passed : (part : DuePart) (k id : ℕ) → IsPassed (total_by (sent_part part id) (take k w.seals.reports))

-- the world after n commands
pub record IsWorld (n : ℕ) (w : World) : Type 0 where
  pub count : n ≤ 1_000_000
  pub today : IsReadDay w.today
  pub rising : AllPairs (λ (k l : Held). k.id < l.id) w.loans
  pub few : length w.loans ≤ 12_000
  pub held : All (IsHeld n w.today) w.loans
  pub reports : AreReports w
  pub add_up : AddUp w.seals w.loans

-- so is the world after each of some more commands
abbrev pub AreWorlds : ℕ → World → List Accepted → Type 0
AreWorlds n w [] = IsWorld n w
AreWorlds n w (a ∷ more) = IsWorld n w × AreWorlds (n + 1) (after (n + 1) w a.command) more
