-- Lines of a month's report, and what they send.
use Rattle.std.specs.Prelude.{ℕ, ◌+◌, ◌<◌, ◌≤◌, ◌==◌, List, length, ℤ, pos, neg_ℤ, ◌+ℤ◌, ◌≤ℤ◌, if◌then◌else◌}
use Rattle.std.specs.List.{All, AllPairs}
use Rattle.period_adjust.specs.declared.report_line.ReportLine.{ReportLine}
use Rattle.svc_base.specs.Sums.{total_by}
use Rattle.svc_world.specs.Held.{boarded_month}
use Rattle.svc_world.specs.Custody.{sent_of_line}
use Rattle.svc_loan.specs.Kept.{KeptLoan}

-- where a loan was boarded by a month, that month of it is closed
abbrev pub IsClosedFor : ℕ → KeptLoan → Type 0
IsClosedFor month k = boarded_month k.held ≤ month → month < boarded_month k.held + k.closed

-- interest and principal of a line, each with the sum of the adjustments
abbrev pub interest_of : ReportLine → ℤ
interest_of l = l.interest +ℤ l.adj_interest

abbrev pub principal_of : ReportLine → ℤ
principal_of l = l.principal +ℤ l.adj_principal

-- from -5 * 10^13 to 5 * 10^13 cents
pub record IsSmallPart (z : ℤ) : Type 0 where
  pub low : neg_ℤ (pos 50_000_000_000_000) ≤ℤ z
  pub high : z ≤ℤ pos 50_000_000_000_000

-- what a line sends of each part is small
pub record IsSmallSent (l : ReportLine) : Type 0 where
  pub interest : IsSmallPart (interest_of l)
  pub principal : IsSmallPart (principal_of l)

-- lines of a report: at most 12,000, rising by loan, each with small parts
pub record AreSent (lines : List ReportLine) : Type 0 where
  pub few : length lines ≤ 12_000
  pub rising : AllPairs (λ (l m : ReportLine). l.loan < m.loan) lines
  pub small : All IsSmallSent lines

-- what a line sends for a loan
abbrev pub sent_to : ℕ → ReportLine → ℤ
sent_to id l = if l.loan == id then sent_of_line l else pos 0

-- what was remitted for a loan after some lines were
abbrev pub remitted_with : List ReportLine → KeptLoan → ℤ
remitted_with lines k = k.remitted +ℤ total_by (sent_to k.held.id) lines

-- what was remitted for a loan before: from 0 to 10^14 cents
pub record IsSmallRemitted (k : KeptLoan) : Type 0 where
  pub low : pos 0 ≤ℤ k.remitted
  pub high : k.remitted ≤ℤ pos 100_000_000_000_000
