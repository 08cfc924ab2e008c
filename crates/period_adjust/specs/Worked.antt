-- Four months of a loan that are closed, from 2023-12 on.
use Rattle.std.specs.Prelude.{◌≡◌, List, [], ◌∷◌, pos, map}
use Rattle.std.specs.List.{All}
use Rattle.remit_types.specs.declared.dues.MonthDue.{MonthDue}
use Rattle.period_adjust.specs.declared.report_line.ReportLine.{ReportLine}
use Rattle.period_adjust.specs.Sealed.{Reporting, reporting}
use Rattle.period_adjust.specs.Totals.{Close, after_all}
use Rattle.period_adjust.specs.Conditions.{IsSmallDue}

-- the line of a loan whose balance is the investor's too
abbrev pub worked_line : MonthDue → ReportLine
worked_line d =
    record {
      loan = 1;
      interest = d.interest;
      principal = d.principal;
      adj_interest = pos 0;
      adj_principal = pos 0;
      upb = d.balance;
      balance = d.balance;
    }

-- nothing is due before 2024-02
abbrev pub nothing_due : MonthDue
nothing_due = record { month = 24_287; interest = pos 0; principal = pos 0; balance = pos 20_000_000 }

-- the reports of 2023-12 to 2024-03
abbrev pub worked_reports : MonthDue → MonthDue → Reporting
worked_reports february march =
    after_all (reporting [] [])
    (Close 24_287 (worked_line nothing_due ∷ [])
    ∷ Close 24_288 (worked_line nothing_due ∷ [])
    ∷ Close 24_289 (worked_line february ∷ [])
    ∷ Close 24_290 (worked_line march ∷ [])
    ∷ [])

-- what was and is due for 2024-02 and 2024-03
pub record AreTwoMonths (was is : List MonthDue) : Type 0 where
  pub was_months : map (λ d. d.month) was ≡ 24_289 ∷ 24_290 ∷ []
  pub is_months : map (λ d. d.month) is ≡ 24_289 ∷ 24_290 ∷ []
  pub was_small : All IsSmallDue was
  pub is_small : All IsSmallDue is
