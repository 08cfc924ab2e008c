-- A loan that was worked out by hand: 200,000.00 at 6%, of which 0.25% is the fee, with a level
-- payment of 1,199.10, boarded on 2023-12-15 and first due in 2024-02.
use Rattle.std.specs.Prelude.{ℕ, ◌+◌, ◌*◌, Bool, false, true, List, [], ◌∷◌, ℤ, pos}
use Rattle.svc_types.specs.declared.terms.Terms.{Terms}
use Rattle.svc_types.specs.declared.terms.RemitType.{RemitType}
use Rattle.svc_types.specs.WorkedLoan.{loan_with}
use Rattle.svc_types.specs.declared.books.MonthFacts.{MonthFacts}
use Rattle.remit_types.specs.declared.dues.MonthDue.{MonthDue}
use Rattle.remit_types.specs.Dues.{LoanMonth, loan_month}

abbrev pub december : ℕ
december = 12 * 2023 + 11

abbrev pub january : ℕ
january = 12 * 2024

abbrev pub february : ℕ
february = 12 * 2024 + 1

abbrev pub march : ℕ
march = 12 * 2024 + 2

abbrev pub april : ℕ
april = 12 * 2024 + 3

abbrev pub may : ℕ
may = 12 * 2024 + 4

-- the loan as it stands above
abbrev pub worked_loan : RemitType → Terms
worked_loan kind = loan_with kind 250 360

-- what a month did: the balance at its end, and what was curtailed and collected in it
abbrev pub facts : ℕ → ℤ → ℤ → ℤ → ℤ → Bool → MonthFacts
facts month upb curtailed interest fee satisfied =
    record {
      month = month;
      upb = upb;
      curtailed = curtailed;
      interest = interest;
      fee = fee;
      satisfied = satisfied;
    }

-- a month in which nothing was paid
abbrev pub unpaid : RemitType → ℕ → ℤ → LoanMonth
unpaid kind month upb = loan_month kind (facts month upb (pos 0) (pos 0) (pos 0) false)

-- the months before the first due month
abbrev pub boarding : RemitType → List LoanMonth
boarding kind = unpaid kind january (pos 20_000_000) ∷ unpaid kind december (pos 20_000_000) ∷ []

-- the first installment, paid in its month, alone and with a curtailment of 1,000.00
abbrev pub first_paid : RemitType → ℤ → LoanMonth
first_paid kind fee = loan_month kind (facts february (pos 19_980_090) (pos 0) (pos 100_000) fee false)

abbrev pub first_curtailed : RemitType → LoanMonth
first_curtailed kind =
    loan_month kind (facts february (pos 19_880_090) (pos 100_000) (pos 100_000) (pos 4_167) false)

-- the months to it
abbrev pub to_curtailed : RemitType → List LoanMonth
to_curtailed kind = first_curtailed kind ∷ boarding kind

-- the first installment and the loan's payoff on 2024-02-16
abbrev pub first_satisfied : RemitType → LoanMonth
first_satisfied kind = loan_month kind (facts february (pos 0) (pos 0) (pos 149_950) (pos 6_248) true)

-- the month after it
abbrev pub still_satisfied : RemitType → LoanMonth
still_satisfied kind = loan_month kind (facts march (pos 0) (pos 0) (pos 0) (pos 0) true)

-- the second installment, paid in its month
abbrev pub second_paid : RemitType → LoanMonth
second_paid kind = loan_month kind (facts march (pos 19_960_080) (pos 0) (pos 99_900) (pos 4_163) false)

-- the months to the first installment, to a second that is paid, and to one that is not
abbrev pub to_february : RemitType → List LoanMonth
to_february kind = first_paid kind (pos 4_167) ∷ boarding kind

abbrev pub to_second_paid : RemitType → List LoanMonth
to_second_paid kind = second_paid kind ∷ to_february kind

abbrev pub to_march : RemitType → List LoanMonth
to_march kind = unpaid kind march (pos 19_980_090) ∷ to_february kind

abbrev pub month_due : ℕ → ℤ → ℤ → ℤ → MonthDue
month_due month interest principal balance =
    record { month = month; interest = interest; principal = principal; balance = balance }
