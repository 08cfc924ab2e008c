-- What holds of all reports, which month is closed or remitted next, and what is kept beside them.
use Rattle.std.specs.Prelude.{◌≡◌, ℕ, ◌+◌, ◌<◌, ◌≤◌, nat_lt, ◌==◌, Bool, true, if◌then◌else◌}
use Rattle.std.specs.Prelude.{List, [], ◌∷◌, take, Option, Some, None, IfSome, ⊤}
use Rattle.std.specs.List.{All}
use Rattle.period_adjust.specs.declared.report_line.ReportLine.{ReportLine}
use Rattle.period_adjust.specs.declared.faults.RemitFault.{RemitFault}
use Rattle.period_adjust.specs.declared.faults.RemitFault.TheVariants.{NotClosed, WrongRemit}
use Rattle.period_adjust.specs.Sealed.{Sealed, Reporting, reporting}
use Rattle.period_adjust.specs.Sums.{DuePart}
use Rattle.period_adjust.specs.Totals.{total}
use Rattle.period_adjust.specs.Conditions.{IsAmount, first_month, last_month, count_held, IsClosed}

-- the month after that one; 0 where there is none
abbrev pub month_after : Option ℕ → ℕ
month_after None = 0
month_after (Some m) = m + 1

-- each month is the one after that of the report before
abbrev pub AreConsecutive : List Sealed → Type 0
AreConsecutive [] = ⊤
AreConsecutive (r ∷ rs) = IfSome (first_month rs) (λ next. next ≡ r.month + 1) × AreConsecutive rs

-- a month from 1989-01 on, before that end
pub record IsBefore (end month : ℕ) : Type 0 where
  pub low : 23_868 ≤ month
  pub high : month < end

-- what holds of all reports and adjustments: the months of reports follow one another, from 1989-01
-- to 2139-12; no adjustment is of a later month; and what was reported and sent for a month of a
-- loan, with its part of the first so many pending adjustments, lies between -10^15 and 10^15, so
-- that a loan's sum of these over at most 1,812 months is a number of 64 bits
pub record AreSealedTo (s : Reporting) (end : ℕ) : Type 0 where
  pub consecutive : AreConsecutive s.reports
  pub most : end ≤ 25_680
  pub reports : All (λ r. IsBefore end r.month) s.reports
  pub sent : All (λ r. All (λ a. IsBefore end a.month) r.adjustments) s.reports
  pub pending : All (λ a. IsBefore end a.month) s.pending
  pub within : (k : ℕ) (p : DuePart) (loan month : ℕ) →
      IsAmount (total p loan month (reporting s.reports (take k s.pending)))

abbrev pub AreSealed : Reporting → Type 0
AreSealed s = AreSealedTo s (month_after (last_month s.reports))

-- the month lies after the last closed one, or none is closed
abbrev pub is_after : ℕ → Option ℕ → Bool
is_after month None = true
is_after month (Some last) = nat_lt last month

-- the month that is remitted next: the one after the last remitted, or the first that was closed
abbrev pub next_remit : Option ℕ → List Sealed → ℕ
next_remit (Some last) reports = last + 1
next_remit None [] = 0
next_remit None (r ∷ rs) = r.month

-- why a month is not remitted, if it is not
abbrev pub remit_fault : List Sealed → Option ℕ → ℕ → Option RemitFault
remit_fault reports remitted month =
    if is_after month (last_month reports) then Some (NotClosed (last_month reports))
    else if next_remit remitted reports == month then None
    else Some (WrongRemit (next_remit remitted reports))

-- reports and adjustments are sealed ones, the count and the months that are kept are theirs, only
-- closed months are remitted, and no lines are left over
pub record AreKept (s : Reporting) (lines : List ReportLine) (held : ℕ) (first closed remitted : Option ℕ)
    : Type 0 where
  pub sealed : AreSealed s
  pub lines_empty : lines ≡ []
  pub held_is : held ≡ count_held s
  pub held_most : held ≤ 4_000_000
  pub first_is : first ≡ first_month s.reports
  pub closed_is : closed ≡ last_month s.reports
  pub remitted_closed : IfSome remitted (IsClosed s.reports)
