-- When the dues of a command may be recorded and a month may be closed.
use Rattle.std.specs.Prelude.{◌≡◌, ℕ, ◌+◌, ◌<◌, ◌≤◌, List, [], ◌∷◌, map, length, ℤ, pos, neg_ℤ, ◌≤ℤ◌}
use Rattle.std.specs.Prelude.{Option, Some, None, IfSome, ⊤}
use Rattle.std.specs.List.{All, Any, AllPairs}
use Rattle.svc_base.specs.Calendar.{IsMonth}
use Rattle.remit_types.specs.declared.dues.MonthDue.{MonthDue}
use Rattle.period_adjust.specs.declared.adjustment.Adjustment.{Adjustment}
use Rattle.period_adjust.specs.declared.report_line.ReportLine.{ReportLine}
use Rattle.period_adjust.specs.Sealed.{Sealed, Reporting}
use Rattle.period_adjust.specs.Sums.{Interest, Principal}
use Rattle.period_adjust.specs.Changes.{adjustments_of}
use Rattle.period_adjust.specs.Totals.{total, Call, Change, Close, after}

-- between -10^15 and 10^15 cents
pub record IsAmount (z : ℤ) : Type 0 where
  pub low : neg_ℤ (pos 1_000_000_000_000_000) ≤ℤ z
  pub high : z ≤ℤ pos 1_000_000_000_000_000

pub record IsSmallDue (d : MonthDue) : Type 0 where
  pub interest : IsAmount d.interest
  pub principal : IsAmount d.principal
  pub balance : IsAmount d.balance

pub record IsSmallLine (l : ReportLine) : Type 0 where
  pub interest : IsAmount l.interest
  pub principal : IsAmount l.principal
  pub upb : IsAmount l.upb
  pub balance : IsAmount l.balance

-- the month that was closed first
abbrev pub first_month : List Sealed → Option ℕ
first_month [] = None
first_month (r ∷ rs) = Some r.month

-- the month that was closed last
abbrev pub last_month : List Sealed → Option ℕ
last_month [] = None
last_month (r ∷ []) = Some r.month
last_month (r ∷ (s ∷ rs)) = last_month (s ∷ rs)

-- how many adjustments were sent
abbrev pub count_sent : List Sealed → ℕ
count_sent [] = 0
count_sent (r ∷ rs) = length r.adjustments + count_sent rs

-- how many adjustments there are, sent or pending
abbrev pub count_held : Reporting → ℕ
count_held s = count_sent s.reports + length s.pending

-- a month is closed where a report is its report
abbrev pub IsClosed : List Sealed → ℕ → Type 0
IsClosed reports month = Any (λ r. r.month ≡ month) reports

-- what a due says is what was reported, sent and is pending for its month
pub record IsDueSoFar (s : Reporting) (loan : ℕ) (d : MonthDue) : Type 0 where
  pub interest : d.interest ≡ total Interest loan d.month s
  pub principal : d.principal ≡ total Principal loan d.month s

-- a command's dues of a loan, before and after it, are those of the same closed months, each month
-- once and rising; before it they are what reports and adjustments say; and there are at most 4,000,000
-- adjustments with those that it adds
pub record MayChange (s : Reporting) (number loan : ℕ) (before later : List MonthDue) : Type 0 where
  pub same_months : map (λ d. d.month) later ≡ map (λ d. d.month) before
  pub closed : All (λ d. IsClosed s.reports d.month) later
  pub rising : AllPairs (λ d e. d.month < e.month) later
  pub so_far : All (IsDueSoFar s loan) before
  pub before_small : All IsSmallDue before
  pub later_small : All IsSmallDue later
  pub few : count_held s + length (adjustments_of number loan before later) ≤ 4_000_000

-- the month that may be closed: at most 2139-12, and the one after the last closed one
pub record IsExpected (reports : List Sealed) (month : ℕ) : Type 0 where
  pub high : month ≤ 25_679
  pub next : IfSome (last_month reports) (λ last. month ≡ last + 1)

pub record HasNoSums (l : ReportLine) : Type 0 where
  pub interest : l.adj_interest ≡ pos 0
  pub principal : l.adj_principal ≡ pos 0

-- the dues of a month: a line a loan, rising, still without sums of adjustments; each loan that has
-- a pending adjustment has a line
pub record AreDues (pending : List Adjustment) (dues : List ReportLine) : Type 0 where
  pub rising : AllPairs (λ l m. l.loan < m.loan) dues
  pub no_sums : All HasNoSums dues
  pub covered : All (λ a. Any (λ l. l.loan ≡ a.loan) dues) pending
  pub small : All IsSmallLine dues

pub record MayClose (s : Reporting) (month : ℕ) (dues : List ReportLine) : Type 0 where
  pub calendar : IsMonth month
  pub expected : IsExpected s.reports month
  pub lines : AreDues s.pending dues

-- a call may be made
abbrev pub MayCall : Reporting → Call → Type 0
MayCall s (Change number loan before later) = MayChange s number loan before later
MayCall s (Close month dues) = MayClose s month dues

-- so may each of a list, one after the other
abbrev pub MayCallAll : Reporting → List Call → Type 0
MayCallAll s [] = ⊤
MayCallAll s (c ∷ cs) = MayCall s c × MayCallAll (after s c) cs
