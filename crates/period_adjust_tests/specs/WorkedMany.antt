-- Many loans, of the numbers 0 to 2,999, whose dues of 2023-12 are changed one after the other.
use Rattle.std.specs.Prelude.{◌≡◌, ℕ, ◌<◌, List, length, slice_index, slice_index_or, pos, Some}
use Rattle.std.specs.List.{All}
use Rattle.remit_types.specs.declared.dues.MonthDue.{MonthDue}
use Rattle.period_adjust.specs.declared.report_line.ReportLine.{ReportLine}
use Rattle.period_adjust.specs.Sealed.{Reporting}
use Rattle.period_adjust.specs.Sums.{DuePart}
use Rattle.period_adjust.specs.Totals.{total}
use Rattle.period_adjust.specs.Conditions.{IsClosed, last_month, count_held}

-- a line of nothing
abbrev pub empty_line : ℕ → ReportLine
empty_line loan =
    record {
      loan = loan;
      interest = pos 0;
      principal = pos 0;
      adj_interest = pos 0;
      adj_principal = pos 0;
      upb = pos 0;
      balance = pos 0;
    }

-- one for each loan
pub record AreEmptyLines (lines : List ReportLine) : Type 0 where
  pub size : length lines ≡ 3_000
  pub each : (k : ℕ) (d : ReportLine) → k < 3_000 → slice_index_or lines k d ≡ empty_line k

-- interest and principal of so many cents for 2023-12
abbrev pub worked_due : ℕ → MonthDue
worked_due cents = record { month = 24_287; interest = pos cents; principal = pos cents; balance = pos 0 }

pub record AreZeros (cents : List ℕ) : Type 0 where
  pub size : length cents ≡ 3_000
  pub each : (k : ℕ) → k < 3_000 → slice_index cents k ≡ 0

-- 2023-12 is the last closed month; for each loan these cents were given for it last; and there are
-- fewer adjustments than the number of the next command, all of these loans
pub record AreGiven (s : Reporting) (cents : List ℕ) (next : ℕ) : Type 0 where
  pub size : length cents ≡ 3_000
  pub closed : IsClosed s.reports 24_287
  pub last : last_month s.reports ≡ Some 24_287
  pub dues : (p : DuePart) (loan : ℕ) → loan < 3_000 → total p loan 24_287 s ≡ pos (slice_index cents loan)
  pub small : (k : ℕ) → k < 3_000 → slice_index cents k < next
  pub held : count_held s < next
  pub owned : All (λ a. a.loan < 3_000) s.pending
