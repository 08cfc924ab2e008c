-- The escrow analysis of a loan on the business day (12 CFR 1024.17(c)(3), (d)(2)(i) and (f)).
use Rattle.std.specs.Prelude.{ℕ, ◌+◌, Bool, ℤ, pos, ◌-ℤ◌, List, map, fold, Option}
use Rattle.std.specs.Int.{int_max}
use Rattle.svc_base.specs.Calendar.{month_of}
use Rattle.svc_types.specs.declared.escrow.Plan.{Plan}
use Rattle.svc_types.specs.declared.escrow.Settled.{Settled}
use Rattle.svc_types.specs.declared.escrow.Figures.{Figures}
use Rattle.svc_types.specs.declared.faults.PlanFault.{PlanFault}
use Rattle.svc_spec.specs.Installments.{escrow_of_plan}
use Rattle.svc_spec.specs.Payoff.{is_current}
use Rattle.escrow_lines.specs.BillLists.{year_of}
use Rattle.escrow_analysis.specs.declared.analysis.Analysis.{Analysis}
use Rattle.escrow_analysis.specs.AggregateAnalysis.{months, base, cushion, trial, target}
use Rattle.escrow_resolve.specs.declared.analysis.Parts.{Parts}
use Rattle.escrow_resolve.specs.Parts.{escrow_parts}
use Rattle.escrow_resolve.specs.Lawful.{plan_fault}
use Rattle.escrow_resolve.specs.Settlement.{settled_plan}
use Rattle.svc_world.specs.Held.{Held, books_now}

-- the computation year begins with the month after the business day's, and so does the plan
abbrev pub year_begins : Held → ℕ
year_begins l = month_of l.account.today + 1

-- what the loan's lines pay out in each of its 12 months
abbrev pub year_of_loan : Held → List ℤ
year_of_loan l = year_of l.lines (year_begins l)

abbrev pub cushion_months : Held → ℕ
cushion_months l = l.account.terms.cushion

-- the least balance with which every month ends at the cushion or above: the greatest of the cushion
-- and of what each month's trial balance lacks to it
abbrev pub least_opening : List ℤ → ℕ → ℤ
least_opening year n =
    fold (λ most k. int_max most (cushion year n -ℤ trial year k)) (cushion year n) months

-- the target balance at the analysis
abbrev pub opening_of : Held → ℤ
opening_of l = least_opening (year_of_loan l) (cushion_months l)

-- surplus, shortage and deficiency of the balance that the books now have
abbrev pub parts_of : Held → Parts
parts_of l = escrow_parts (books_now l).escrow (opening_of l)

abbrev pub is_current_now : Held → Bool
is_current_now l = is_current l.account.terms l.account.today (books_now l)

-- why a plan for it is refused
abbrev pub loan_plan_fault : Held → Plan → Option PlanFault
loan_plan_fault l plan = plan_fault (parts_of l) (base (year_of_loan l)) (is_current_now l) plan

-- what a lawful plan settles
abbrev pub settlement_of : Held → Plan → Settled
settlement_of l plan = settled_plan (parts_of l) (base (year_of_loan l)) (year_begins l) plan

-- the numbers of an analysis, with what was paid out, what is asked within 30 days, and the monthly
-- escrow payment
abbrev pub figures_with : Held → ℤ → ℤ → ℤ → Figures
figures_with l refund within30 pay = record {
  from = year_begins l;
  base = base (year_of_loan l);
  cushion = cushion (year_of_loan l) (cushion_months l);
  opening = opening_of l;
  balance = (books_now l).escrow;
  surplus = (parts_of l).surplus;
  short = (parts_of l).short;
  deficient = (parts_of l).deficient;
  refund = refund;
  within30 = within30;
  pay = pay;
}

-- those of a settled analysis: the payment is that of the new plan's first month
abbrev pub settled_figures : Held → Plan → Figures
settled_figures l plan =
    figures_with l (settlement_of l plan).refund (settlement_of l plan).within30
    (escrow_of_plan (settlement_of l plan).plan (year_begins l))

-- those that an analysis on the business day would have: nothing is settled, and the payment is the base
abbrev pub asked_figures : Held → Figures
asked_figures l = figures_with l (pos 0) (pos 0) (base (year_of_loan l))

-- the year's trial and target balances
abbrev pub analysis_of : Held → Analysis
analysis_of l = record {
  base = base (year_of_loan l);
  cushion = cushion (year_of_loan l) (cushion_months l);
  opening = opening_of l;
  trial = map (trial (year_of_loan l)) months;
  target = map (target (year_of_loan l) (opening_of l)) months;
}
