-- The dues of a loan from all its months, which come newest first and go back to the boarded month.
use Rattle.std.specs.Prelude.{◌≡◌, List, [], ◌∷◌, ℤ, pos, ◌+ℤ◌, ◌-ℤ◌}
use Rattle.std.specs.List.{All}
use Rattle.svc_types.specs.declared.terms.Terms.{Terms}
use Rattle.svc_types.specs.declared.terms.RemitType.{RemitType}
use Rattle.svc_types.specs.declared.terms.RemitType.TheVariants.{AA, SA, SS}
use Rattle.svc_types.specs.declared.books.MonthFacts.{MonthFacts}
use Rattle.remit_types.specs.declared.dues.MonthDue.{MonthDue}
use Rattle.remit_types.specs.Schedule.{scheduled_interest}
use Rattle.remit_types.specs.Dues.{LoanMonth, balance_after, passed_by}

-- the loan's own balance at the end of the newest month: the principal before the boarded month
abbrev pub loan_balance : Terms → List LoanMonth → ℤ
loan_balance t [] = t.principal
loan_balance t (month ∷ earlier) = month.facts.upb

-- the investor's balance at that time
abbrev pub investor_balance : Terms → List LoanMonth → ℤ
investor_balance t [] = t.principal
investor_balance t (month ∷ earlier) = balance_after t (investor_balance t earlier) month

-- the interest less fee that was collected in all the months
abbrev pub actual_interest : List LoanMonth → ℤ
actual_interest [] = pos 0
actual_interest (month ∷ earlier) = actual_interest earlier +ℤ (month.facts.interest -ℤ month.facts.fee)

-- the interest less fee that was scheduled in all the months, on the investor's balance of the
-- month before each
abbrev pub interest_schedule : Terms → List LoanMonth → ℤ
interest_schedule t [] = pos 0
interest_schedule t (month ∷ earlier) =
    interest_schedule t earlier +ℤ scheduled_interest t month.facts.month (investor_balance t earlier)

-- the interest that was passed to the investor, by the newest month's type
abbrev pub interest_passed : Terms → List LoanMonth → ℤ
interest_passed t [] = pos 0
interest_passed t (month ∷ earlier) =
    passed_by month.kind (actual_interest (month ∷ earlier)) (interest_schedule t (month ∷ earlier))

-- the due of a month that follows others
abbrev pub due : Terms → LoanMonth → List LoanMonth → MonthDue
due t m earlier =
    record {
      month = m.facts.month;
      interest = interest_passed t (m ∷ earlier) -ℤ interest_passed t earlier;
      principal = investor_balance t earlier -ℤ investor_balance t (m ∷ earlier);
      balance = investor_balance t (m ∷ earlier);
    }

-- each month is remitted by one type
abbrev pub AreOfType : RemitType → List LoanMonth → Type 0
AreOfType kind months = All (λ (m : LoanMonth). m.kind ≡ kind) months

-- the interest due for a month of a loan whose type never changes, from the investor's balance of
-- the month before: as collected, or as scheduled
abbrev pub interest_by : RemitType → Terms → ℤ → MonthFacts → ℤ
interest_by AA t before f = f.interest -ℤ f.fee
interest_by SA t before f = scheduled_interest t f.month before
interest_by SS t before f = scheduled_interest t f.month before
