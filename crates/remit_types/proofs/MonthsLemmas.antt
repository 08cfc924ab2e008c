-- What is carried month by month is what is defined over all months, and dues of a loan whose type
-- never changes.
use Rattle.std.proofs.Common.{◌≡◌, List, [], ◌∷◌, ℤ, ◌+ℤ◌, ◌-ℤ◌, refl, ap, ◌∙◌, arith}
use Rattle.std.proofs.lemmas.Int.{ints}
use Rattle.std.proofs.lemmas.List.Elements.{All-head, All-tail}
use Rattle.svc_types.specs.declared.terms.Terms.{Terms}
use Rattle.svc_types.specs.declared.terms.RemitType.{RemitType}
use Rattle.svc_types.specs.declared.terms.RemitType.TheVariants.{AA, SA, SS}
use Rattle.svc_types.specs.declared.books.MonthFacts.{MonthFacts}
use Rattle.remit_types.specs.Schedule.{scheduled_interest}
use Rattle.remit_types.specs.Dues.{LoanMonth, balance_after, passed_by, carried, carried_after, due_between}
use Rattle.remit_types.specs.Months.{loan_balance, investor_balance, actual_interest, interest_schedule, interest_passed, due, interest_by, AreOfType}
use Rattle.remit_types.proofs.DueFields.{due_fields, passed_by-both}

pub carried-upb : (t : Terms) (months : List LoanMonth) → (carried t months).upb ≡ loan_balance t months
unfolding carried_after
carried-upb t [] = refl
carried-upb t (m ∷ earlier) = refl

pub carried-balance : (t : Terms) (months : List LoanMonth) → (carried t months).balance ≡ investor_balance t months
unfolding carried_after
carried-balance t [] = refl
carried-balance t (m ∷ earlier) = ap (λ b. balance_after t b m) (carried-balance t earlier)

pub carried-actual : (t : Terms) (months : List LoanMonth) → (carried t months).actual ≡ actual_interest months
unfolding carried_after
carried-actual t [] = refl
carried-actual t (m ∷ earlier) = ap (λ a. a +ℤ (m.facts.interest -ℤ m.facts.fee)) (carried-actual t earlier)

sums : (a b c d : ℤ) → a ≡ b → c ≡ d → a +ℤ c ≡ b +ℤ d
sums a b c d e f = cc

pub carried-scheduled : (t : Terms) (months : List LoanMonth) → (carried t months).scheduled ≡ interest_schedule t months
unfolding carried_after
carried-scheduled t [] = refl
carried-scheduled t (m ∷ earlier) =
    sums _ _ _ _ (carried-scheduled t earlier) (ap (λ b. scheduled_interest t m.facts.month b) (carried-balance t earlier))

pub carried-passed : (t : Terms) (months : List LoanMonth) → (carried t months).passed ≡ interest_passed t months
unfolding carried_after
carried-passed t [] = refl
carried-passed t (m ∷ earlier) =
    passed_by-both m.kind _ _ _ _ (carried-actual t (m ∷ earlier)) (carried-scheduled t (m ∷ earlier))

differences : (a b c d : ℤ) → a ≡ b → c ≡ d → a -ℤ c ≡ b -ℤ d
differences a b c d e f = cc

pub due_between-carried : (t : Terms) (m : LoanMonth) (earlier : List LoanMonth) → due_between m.facts.month (carried t earlier) (carried t (m ∷ earlier)) ≡ due t m earlier
due_between-carried t m earlier =
    due_fields _ _ _ _ _ _ _ _ refl
    (differences _ _ _ _ (carried-passed t (m ∷ earlier)) (carried-passed t earlier))
    (differences _ _ _ _ (carried-balance t earlier) (carried-balance t (m ∷ earlier)))
    (carried-balance t (m ∷ earlier))

-- what was passed by one type alone
pub interest_passed-of_type : (t : Terms) (kind : RemitType) (months : List LoanMonth) → AreOfType kind months → interest_passed t months ≡ passed_by kind (actual_interest months) (interest_schedule t months)
interest_passed-of_type t AA [] all = refl
interest_passed-of_type t SA [] all = refl
interest_passed-of_type t SS [] all = refl
interest_passed-of_type t kind (m ∷ earlier) all =
    ap (λ k. passed_by k (actual_interest (m ∷ earlier)) (interest_schedule t (m ∷ earlier))) (All-head (λ (m : LoanMonth). m.kind ≡ kind) m earlier all)

rises : (kind : RemitType) (a b c d : ℤ) → passed_by kind (a +ℤ b) (c +ℤ d) -ℤ passed_by kind a c ≡ passed_by kind b d
rises AA a b c d = omega (arith, ints)
rises SA a b c d = omega (arith, ints)
rises SS a b c d = omega (arith, ints)

by_type : (kind : RemitType) (t : Terms) (before : ℤ) (f : MonthFacts) → passed_by kind (f.interest -ℤ f.fee) (scheduled_interest t f.month before) ≡ interest_by kind t before f
by_type AA t before f = refl
by_type SA t before f = refl
by_type SS t before f = refl

pub due-of_type : (t : Terms) (kind : RemitType) (m : LoanMonth) (earlier : List LoanMonth) → AreOfType kind (m ∷ earlier) → (due t m earlier).interest ≡ interest_by kind t (investor_balance t earlier) m.facts
due-of_type t kind m earlier all =
    differences _ _ _ _ (interest_passed-of_type t kind (m ∷ earlier) all) (interest_passed-of_type t kind earlier (All-tail (λ (m : LoanMonth). m.kind ≡ kind) m earlier all)) ∙
    rises kind (actual_interest earlier) (m.facts.interest -ℤ m.facts.fee) (interest_schedule t earlier) (scheduled_interest t m.facts.month (investor_balance t earlier)) ∙
    by_type kind t (investor_balance t earlier) m.facts
