-- What reports and adjustments say of a month of a loan, and what was given for it last.
use Rattle.std.specs.Prelude.{◌≡◌, ℕ, ◌==◌, ◌&&◌, if◌then◌else◌, List, [], ◌∷◌, ◌++◌, ℤ, pos, ◌+ℤ◌}
use Rattle.svc_base.specs.Sums.{total_by}
use Rattle.remit_types.specs.declared.dues.MonthDue.{MonthDue}
use Rattle.period_adjust.specs.declared.adjustment.Adjustment.{Adjustment}
use Rattle.period_adjust.specs.declared.report_line.ReportLine.{ReportLine}
use Rattle.period_adjust.specs.Sealed.{Sealed, Reporting, reporting}
use Rattle.period_adjust.specs.Sums.{DuePart, Interest, Principal, part_of_adjustment, share, report_of}
use Rattle.period_adjust.specs.Changes.{adjustments_of}

abbrev pub part_of_line : DuePart → ReportLine → ℤ
part_of_line Interest l = l.interest
part_of_line Principal l = l.principal

abbrev pub part_of_due : DuePart → MonthDue → ℤ
part_of_due Interest d = d.interest
part_of_due Principal d = d.principal

-- what an adjustment says of a month of a loan
abbrev pub adjusted : DuePart → ℕ → ℕ → Adjustment → ℤ
adjusted p loan month a = if (a.loan == loan) && (a.month == month) then part_of_adjustment p a else pos 0

-- what a line says of a loan
abbrev pub lined : DuePart → ℕ → ReportLine → ℤ
lined p loan l = if l.loan == loan then part_of_line p l else pos 0

abbrev pub part_of_sums : DuePart → ReportLine → ℤ
part_of_sums Interest l = l.adj_interest
part_of_sums Principal l = l.adj_principal

-- what a line says of the adjustments of a loan
abbrev pub summed : DuePart → ℕ → ReportLine → ℤ
summed p loan l = if l.loan == loan then part_of_sums p l else pos 0

-- the sums in the lines of a report are those of the adjustments that it sends
abbrev pub SendsItsSums : Sealed → Type 0
SendsItsSums r = (p : DuePart) (loan : ℕ) →
    total_by (summed p loan) r.lines ≡ total_by (share p loan) r.adjustments

-- what a report says of a month of a loan: its lines, if it is that month's, and its adjustments
abbrev pub reported : DuePart → ℕ → ℕ → Sealed → ℤ
reported p loan month r =
    (if r.month == month then total_by (lined p loan) r.lines else pos 0)
    +ℤ total_by (adjusted p loan month) r.adjustments

-- what was reported, what was sent and what is pending for a month of a loan
abbrev pub total : DuePart → ℕ → ℕ → Reporting → ℤ
total p loan month s =
    total_by (reported p loan month) s.reports +ℤ total_by (adjusted p loan month) s.pending

-- a call: a command's changes of a loan's dues, or the closing of a month with its dues
pub data Call : Type 0 where
  Change : ℕ → ℕ → List MonthDue → List MonthDue → Call
  Close : ℕ → List ReportLine → Call

-- the reporting after a call: a change adds its adjustments to the pending ones, and a closing adds
-- the month's report after the others, which sends what was pending
abbrev pub after : Reporting → Call → Reporting
after s (Change number loan before later) =
    reporting s.reports (s.pending ++ adjustments_of number loan before later)
after s (Close month dues) = reporting (s.reports ++ report_of month dues s.pending ∷ []) []

-- the reporting after many calls
abbrev pub after_all : Reporting → List Call → Reporting
after_all s [] = s
after_all s (c ∷ cs) = after_all (after s c) cs

-- the due of a month in a list, or else the one that was given before
abbrev pub due_in : DuePart → ℕ → ℤ → List MonthDue → ℤ
due_in p month was [] = was
due_in p month was (d ∷ ds) = due_in p month (if d.month == month then part_of_due p d else was) ds

-- the due of a month of a loan that is given last
abbrev pub given : DuePart → ℕ → ℕ → ℤ → Call → ℤ
given p loan month was (Change number l before later) = if l == loan then due_in p month was later else was
given p loan month was (Close m dues) = if m == month then total_by (lined p loan) dues else was

abbrev pub given_last : DuePart → ℕ → ℕ → ℤ → List Call → ℤ
given_last p loan month was [] = was
given_last p loan month was (c ∷ cs) = given_last p loan month (given p loan month was c) cs
