-- What is due of a loan for a month, by the remittance type that the month has
-- (Fannie Mae Servicing Guide, remittance types).
use Rattle.std.specs.Prelude.{◌≡◌, ℕ, zero, suc, ◌+◌, ◌-◌, ◌≤◌, ◌<◌, nat_le, ◌&&◌, if◌then◌else◌, List, [], ◌∷◌, ◌++◌, fold}
use Rattle.std.specs.List.{All}
use Rattle.svc_base.specs.Calendar.{month_of}
use Rattle.svc_types.specs.declared.terms.Terms.{Terms}
use Rattle.svc_types.specs.declared.terms.RemitType.{RemitType}
use Rattle.svc_types.specs.declared.requests.TypeChange.{TypeChange}
use Rattle.svc_spec.specs.Accounts.{Account}
use Rattle.svc_spec.specs.Months.{month_facts}
use Rattle.remit_types.specs.declared.dues.MonthDue.{MonthDue}
use Rattle.remit_types.specs.declared.dues.Carry.{Carry}
use Rattle.remit_types.specs.Dues.{LoanMonth, loan_month, carried, due_between}
use Rattle.svc_world.specs.Held.{Held}

abbrev pub type_change : ℕ → RemitType → TypeChange
type_change from kind = record { from = from; kind = kind }

-- of two changes the one that counts in a month: the later one, where it has begun by then; of two that
-- begin in one month the one that was accepted last
abbrev pub counting : ℕ → TypeChange → TypeChange → TypeChange
counting month best c = if nat_le c.from month && nat_le best.from c.from then c else best

-- the type of a month: that of the change that counts, else the type at boarding
abbrev pub kind_in : Terms → List TypeChange → ℕ → RemitType
kind_in t types month = (fold (counting month) (type_change 0 t.kind) types).kind

-- of some changes one counts in a month: it begins by the month, none before it begins later by then, and each after it
-- begins earlier or after the month; so the one that begins last counts, and of those that begin in one month the one
-- that was accepted last
pub record Counts (types : List TypeChange) (month : ℕ) (c : TypeChange) : Type 0 where
  pub front : List TypeChange
  pub back : List TypeChange
  pub is : types ≡ front ++ c ∷ back
  pub begins : c.from ≤ month
  pub before : All (λ (x : TypeChange). x.from ≤ month → x.from ≤ c.from) front
  pub after : All (λ (x : TypeChange). x.from ≤ month → x.from < c.from) back

-- what a month did to a loan, and how it is remitted
abbrev pub month_of_loan : Account → List TypeChange → ℕ → LoanMonth
month_of_loan a types month = loan_month (kind_in a.terms types month) (month_facts a month)

-- the first n months from the boarded one on, the newest first
abbrev pub first_months : Account → List TypeChange → ℕ → List LoanMonth
first_months a types zero = []
first_months a types (suc n) = month_of_loan a types (month_of a.terms.boarded + n) ∷ first_months a types n

-- the loan's remittance after the first n months
unfoldable pub carried_to : Account → List TypeChange → ℕ → Carry
carried_to a types n = carried a.terms (first_months a types n)

-- at the end of a month; before the boarded month it is as at boarding
abbrev pub carried_at : Account → List TypeChange → ℕ → Carry
carried_at a types month = carried_to a types (month + 1 - month_of a.terms.boarded)

-- what is due for a month: nothing before the boarded one
abbrev pub due_in : Account → List TypeChange → ℕ → MonthDue
due_in a types month = due_between month (carried_at a types (month - 1)) (carried_at a types month)

abbrev pub carry_of : Held → ℕ → Carry
carry_of l month = carried_at l.account l.types month

abbrev pub due_of : Held → ℕ → MonthDue
due_of l month = due_in l.account l.types month
