-- The lines of a month's report, loan by loan.
use Rattle.std.proofs.Common.{◌≡◌, ℕ, suc, ◌+◌, ◌-◌, ◌≤◌, ◌<◌, Bool, true, false, cond, List, [], ◌∷◌, ◌++◌, map, take, get_or, length, arith, refl, sym, ap, ◌∙◌}
use Rattle.std.specs.Prelude.{nat_le, not, ◌&&◌, ◌||◌}
use Rattle.std.specs.List.{filter}
use Rattle.std.proofs.lemmas.Bool.Decides.{nat_tests}
use Rattle.std.proofs.lemmas.List.{take_more}
use Rattle.remit_types.specs.declared.dues.MonthDue.{MonthDue}
use Rattle.remit_types.specs.declared.dues.Carry.{Carry}
use Rattle.period_adjust.specs.declared.adjustment.Adjustment.{Adjustment}
use Rattle.svc_world.specs.Held.{Held, boarded_month}
use Rattle.svc_world.specs.LoanDues.{carry_of, due_of}
use Rattle.svc_world.specs.Reports.{is_zero, is_adjusted, is_reported, line_of, lines_of}
use Rattle.svc_loan.specs.Kept.{KeptLoan}
use Rattle.svc_loan.specs.Loans.{held_in}

pub lines_yes : (pending : List Adjustment) (p : ℕ) (l : Held) → is_reported pending p l ≡ true → lines_of pending p (l ∷ []) ≡ line_of p l ∷ []
unfolding lines_of
lines_yes pending p l e = ap (λ v. map (line_of p) (cond v (l ∷ []) [])) e

pub lines_no : (pending : List Adjustment) (p : ℕ) (l : Held) → is_reported pending p l ≡ false → lines_of pending p (l ∷ []) ≡ []
unfolding lines_of
lines_no pending p l e = ap (λ v. map (line_of p) (cond v (l ∷ []) [])) e

pub lines_none : (pending : List Adjustment) (p : ℕ) → lines_of pending p [] ≡ []
unfolding lines_of
lines_none pending p = refl

pub lines_append : (pending : List Adjustment) (p : ℕ) (ls ms : List Held) → lines_of pending p (ls ++ ms) ≡ lines_of pending p ls ++ lines_of pending p ms
unfolding lines_of
lines_append pending p [] ms = refl
lines_append pending p (l ∷ ls) ms =
    elim (is_reported pending p l) as (λ v. map (line_of p) (cond v (l ∷ filter (is_reported pending p) (ls ++ ms)) (filter (is_reported pending p) (ls ++ ms))) ≡ map (line_of p) (cond v (l ∷ filter (is_reported pending p) ls) (filter (is_reported pending p) ls)) ++ lines_of pending p ms) [
      | true ↦ ap (λ xs. line_of p l ∷ xs) (lines_append pending p ls ms)
      | false ↦ lines_append pending p ls ms
    ]

-- no more lines than loans
pub lines_most : (pending : List Adjustment) (p : ℕ) (ls : List Held) → length (lines_of pending p ls) ≤ length ls
unfolding lines_of
lines_most pending p [] = omega arith
lines_most pending p (l ∷ ls) =
    let rest = lines_most pending p ls in
    elim (is_reported pending p l) as (λ v. length (map (line_of p) (cond v (l ∷ filter (is_reported pending p) ls) (filter (is_reported pending p) ls))) ≤ suc (length ls)) [
      | true ↦ omega (arith, rest)
      | false ↦ omega (arith, rest)
    ]

pub held_length : (ks : List KeptLoan) → length (held_in ks) ≡ length ks
held_length [] = refl
held_length (k ∷ ks) = ap suc (held_length ks)

held_more : (ks : List KeptLoan) (k : KeptLoan) → held_in (ks ++ k ∷ []) ≡ held_in ks ++ k.held ∷ []
held_more [] k = refl
held_more (j ∷ js) k = ap (λ ls. j.held ∷ ls) (held_more js k)

-- the lines of the first loans, with one loan more
pub lines_more : (pending : List Adjustment) (p : ℕ) (ks : List KeptLoan) (i : ℕ) (k : KeptLoan) → i < length ks → k ≡ get_or ks i k → lines_of pending p (held_in (take (i + 1) ks)) ≡ lines_of pending p (held_in (take i ks)) ++ lines_of pending p (k.held ∷ [])
lines_more pending p ks i k lt is =
    ap (λ js. lines_of pending p (held_in js)) (take_more ks i k lt ∙ ap (λ x. take i ks ++ x ∷ []) (sym is))
    ∙ ap (lines_of pending p) (held_more (take i ks) k)
    ∙ lines_append pending p (held_in (take i ks)) (k.held ∷ [])

-- what is read of a loan for its line
abbrev any_left : Carry → MonthDue → Bool → Bool
any_left before due adjusted =
    not (is_zero before.upb) || not (is_zero before.balance) || not (is_zero due.interest)
    || not (is_zero due.principal) || adjusted

pub reported_is : (pending : List Adjustment) (p q : ℕ) (l : Held) (before : Carry) (due : MonthDue) (adjusted : Bool) → boarded_month l ≤ p → q + 1 ≡ p → before ≡ carry_of l q → due ≡ due_of l p → adjusted ≡ is_adjusted pending l.id → any_left before due adjusted ≡ is_reported pending p l
reported_is pending p q l before due adjusted le next carry is pends =
    let by : nat_le (boarded_month l) p ≡ true = grind (arith, nat_tests) in
    let back : q ≡ p - 1 = omega (arith, next) in
    ap (λ b. any_left b due adjusted) (carry ∙ ap (carry_of l) back)
    ∙ ap (λ d. any_left (carry_of l (p - 1)) d adjusted) is
    ∙ ap (any_left (carry_of l (p - 1)) (due_of l p)) pends
    ∙ sym (ap (λ v. v && any_left (carry_of l (p - 1)) (due_of l p) (is_adjusted pending l.id)) by)
