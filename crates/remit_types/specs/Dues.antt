-- What is due to a loan's investor for a month, by the three remittance types of the Fannie Mae
-- Servicing Guide: Actual/Actual passes interest and principal as collected, Scheduled/Actual
-- scheduled interest and principal as collected, Scheduled/Scheduled both as scheduled. The type
-- may change from month to month: interest due is what the interest passed rises by.
use Rattle.std.specs.Prelude.{ℕ, if◌then◌else◌, List, [], ◌∷◌, ℤ, pos, ◌+ℤ◌, ◌-ℤ◌}
use Rattle.std.specs.Int.{int_max}
use Rattle.svc_types.specs.declared.terms.Terms.{Terms}
use Rattle.svc_types.specs.declared.terms.RemitType.{RemitType}
use Rattle.svc_types.specs.declared.terms.RemitType.TheVariants.{AA, SA, SS}
use Rattle.svc_types.specs.declared.books.MonthFacts.{MonthFacts}
use Rattle.remit_types.specs.declared.dues.MonthDue.{MonthDue}
use Rattle.remit_types.specs.declared.dues.Carry.{Carry}
use Rattle.remit_types.specs.Schedule.{scheduled_principal, scheduled_interest}

-- a month of a loan: how it is remitted, and what it did to the loan
pub record LoanMonth : Type 0 where
  pub kind : RemitType
  pub facts : MonthFacts

abbrev pub loan_month : RemitType → MonthFacts → LoanMonth
loan_month kind facts = record { kind = kind; facts = facts }

-- what scheduled principal and curtailments leave of a balance, never below 0
unfoldable pub scheduled_balance : Terms → ℤ → MonthFacts → ℤ
scheduled_balance t balance f =
    int_max (balance -ℤ scheduled_principal t f.month balance -ℤ f.curtailed) (pos 0)

-- the investor's balance at a month's end, from that of the month before
abbrev pub balance_by : RemitType → Terms → ℤ → MonthFacts → ℤ
balance_by AA t before f = f.upb
balance_by SA t before f = f.upb
balance_by SS t before f = if f.satisfied then pos 0 else scheduled_balance t before f

abbrev pub balance_after : Terms → ℤ → LoanMonth → ℤ
balance_after t before m = balance_by m.kind t before m.facts

-- the interest passed to the investor from boarding on: the actual for Actual/Actual, else the
-- scheduled
abbrev pub passed_by : RemitType → ℤ → ℤ → ℤ
passed_by AA actual scheduled = actual
passed_by SA actual scheduled = scheduled
passed_by SS actual scheduled = scheduled

-- interest less fee that was collected from boarding to a month's end, and that was scheduled
abbrev pub actual_after : Carry → LoanMonth → ℤ
actual_after c m = c.actual +ℤ (m.facts.interest -ℤ m.facts.fee)

abbrev pub scheduled_after : Terms → Carry → LoanMonth → ℤ
scheduled_after t c m = c.scheduled +ℤ scheduled_interest t m.facts.month c.balance

-- a loan's remittance before the boarded month
abbrev pub carried_first : Terms → Carry
carried_first t =
    record { upb = t.principal; balance = t.principal; actual = pos 0; scheduled = pos 0; passed = pos 0 }

-- a loan's remittance at a month's end, from that of the month before
unfoldable pub carried_after : Terms → Carry → LoanMonth → Carry
carried_after t c m =
    record {
      upb = m.facts.upb;
      balance = balance_after t c.balance m;
      actual = actual_after c m;
      scheduled = scheduled_after t c m;
      passed = passed_by m.kind (actual_after c m) (scheduled_after t c m);
    }

-- a loan's remittance at the end of the newest month; the months come newest first, and the last
-- of them is the boarded month
abbrev pub carried : Terms → List LoanMonth → Carry
carried t [] = carried_first t
carried t (month ∷ earlier) = carried_after t (carried t earlier) month

-- the due of a month, from the remittance at the end of the month before and at its own: what the
-- interest passed rises by, and what the investor's balance falls by
abbrev pub due_between : ℕ → Carry → Carry → MonthDue
due_between month before later =
    record {
      month = month;
      interest = later.passed -ℤ before.passed;
      principal = before.balance -ℤ later.balance;
      balance = later.balance;
    }
