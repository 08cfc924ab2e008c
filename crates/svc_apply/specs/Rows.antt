-- A worked loan, and what is looked at in its books.
use Rattle.std.specs.Prelude.{ℕ, ◌+◌, ◌-◌, ◌*◌, List, [], ◌∷◌, ◌++◌, ℤ, pos, ◌+ℤ◌}
use Rattle.svc_types.specs.declared.terms.Terms.{Terms}
use Rattle.svc_types.specs.declared.terms.RemitType.TheVariants as remit
use Rattle.svc_types.specs.WorkedLoan.{month_at, day_at, loan_with}
use Rattle.svc_types.specs.declared.books.Books.{Books}
use Rattle.svc_types.specs.declared.account.Designation.TheVariants as designation
use Rattle.svc_types.specs.declared.account.Act.{Act}
use Rattle.svc_types.specs.declared.account.Act.TheVariants as act
use Rattle.svc_types.specs.declared.account.Event.{Event}
use Rattle.svc_types.specs.declared.escrow.EscrowPlan.{EscrowPlan}
use Rattle.svc_types.specs.declared.escrow.Settled.{Settled}
use Rattle.svc_types.specs.declared.account.What.TheVariants as what
use Rattle.svc_spec.specs.Books.{start}
use Rattle.svc_spec.specs.Events.{folded}

-- 200,000.00 at 6% over 30 years, boarded in December 2023 and first due in February 2024
abbrev pub worked_loan : Terms
worked_loan = loan_with remit.SS 250 360

abbrev pub on : ℕ → Act → Event
on d a = record { day = d; what = what.Act a }

abbrev pub late_on : ℕ → ℕ → Event
late_on d k = record { day = d; what = what.LateMark k }

-- a regular payment
abbrev pub regular : ℤ → Act
regular c = act.Pay c designation.Regular

-- a payment whose rest goes to principal, and one whose rest goes to escrow
abbrev pub with_principal : ℤ → Act
with_principal c = act.Pay c designation.Principal

abbrev pub with_escrow : ℤ → Act
with_escrow c = act.Pay c designation.Escrow

-- the books of the worked loan after some events
abbrev pub after : List Event → Books
after es = folded worked_loan (start worked_loan) es

-- what is looked at, in cents
pub record Row : Type 0 where
  pub upb : ℤ
  pub next : ℕ
  pub escrow : ℤ
  pub suspense : ℤ
  pub late : ℤ
  pub interest : ℤ
  pub fee : ℤ
  pub principal : ℤ
  pub curtailed : ℤ
  pub charges : ℤ

abbrev pub row_of : Books → Row
row_of b = record {
  upb = b.upb;
  next = b.next;
  escrow = b.escrow;
  suspense = b.suspense;
  late = b.late_owed;
  interest = b.interest;
  fee = b.fee;
  principal = b.principal;
  curtailed = b.curtailed;
  charges = b.late_paid;
}

-- the worked loan's row at boarding, after its first installment, and after its second
abbrev pub at_boarding : Row
at_boarding = record {
  upb = pos 20_000_000;
  next = 1;
  escrow = pos 0;
  suspense = pos 0;
  late = pos 0;
  interest = pos 0;
  fee = pos 0;
  principal = pos 0;
  curtailed = pos 0;
  charges = pos 0;
}

abbrev pub one_paid : Row
one_paid = record at_boarding {
  upb = pos 19_980_090;
  next = 2;
  interest = pos 100_000;
  fee = pos 4_167;
  principal = pos 19_910;
}

abbrev pub two_paid : Row
two_paid = record at_boarding {
  upb = pos 19_960_080;
  next = 3;
  interest = pos 199_900;
  fee = pos 8_330;
  principal = pos 39_920;
}

-- the worked loan's first payment
abbrev pub paid_first : List Event
paid_first = on (day_at 2024 2 1) (regular (pos 119_910)) ∷ []

-- the worked loan on the day on which its first installment is due, after one payment
abbrev pub after_first : Act → Books
after_first a = after (on (day_at 2024 2 1) a ∷ [])

-- the first payment, and the late charge of the second installment
abbrev pub charged_second : List Event
charged_second = paid_first ++ late_on (day_at 2024 3 17) 2 ∷ []

-- a payment of all that is owed on that day, the rest of it to principal, and of what exceeds it
abbrev pub paid_out : ℤ → List Event
paid_out more = on (day_at 2024 2 1) (with_principal (pos 20_100_000 +ℤ more)) ∷ []

-- the first payment, and a payoff of 200,300.40 fifteen days later
abbrev pub paid_off_early : List Event
paid_off_early = paid_first ++ on (day_at 2024 2 16) (act.Payoff (pos 20_030_040)) ∷ []

-- a loan of one installment
abbrev pub short_loan : Terms
short_loan = record worked_loan { term = 1 }

-- the worked loan with an escrow payment of 130.00 a month
abbrev pub escrow_loan : Terms
escrow_loan = record worked_loan { boarded = day_at 2024 6 1; first = month_at 2024 7; escrow = pos 13_000 }

-- a plan that starts in a month, and what an analysis with it settles
abbrev pub plan_from : ℕ → ℤ → ℤ → EscrowPlan
plan_from start base credit = record {
  start = start;
  base = base;
  credit = credit;
  short = pos 0;
  short_months = 0;
  deficient = pos 0;
  deficient_months = 0;
}

abbrev pub analysis_from : ℕ → ℤ → Settled
analysis_from start base = record {
  plan = plan_from start base (pos 0);
  refund = pos 0;
  within30 = pos 0;
}

-- the loan with escrow after some events
abbrev pub escrow_after : List Event → Books
escrow_after es = folded escrow_loan (start escrow_loan) es

abbrev pub deposit_then_bill : List Event
deposit_then_bill =
    on (day_at 2024 6 10) (act.Deposit (pos 150_000))
    ∷ on (day_at 2024 6 12) (act.Disburse (pos 200_000) 1) ∷ []
