-- The loan that a command names, and the rules on it.
use Rattle.std.proofs.Common.{◌≡◌, ℕ, ◌≤◌, ◌<◌, true, false, List, [], ◌∷◌, sym, ap, subst, ◌∙◌}
use Rattle.std.specs.Prelude.{Some, None, nat_le, Result, Ok, Err, IfOk}
use Rattle.std.specs.Option.{option_map, option_map_or}
use Rattle.std.proofs.Common.{arith}
use Rattle.std.proofs.lemmas.Bool.Decides.{nat_tests}
use Rattle.svc_types.specs.declared.terms.Terms.{Terms}
use Rattle.svc_types.specs.declared.requests.Command.{Command}
use Rattle.svc_types.specs.declared.requests.Command.TheVariants as command
use Rattle.svc_types.specs.declared.replies.Refusal.TheVariants.{NoSuchLoan, Full}
use Rattle.svc_types.specs.declared.replies.Limit.TheVariants.{Commands}
use Rattle.svc_spec.specs.Accounts.{Account}
use Rattle.svc_base.specs.Calendar.{month_of}
use Rattle.period_adjust.specs.Sealed.{State}
use Rattle.svc_world.specs.Held.{Held, find_loan}
use Rattle.svc_world.specs.World.{World}
use Rattle.svc_world.specs.Refusals.{Case, case, first_of, on_loan, full_of_commands, cases_by_command, refusal_of, cases_by_scope, rules_of}
use Rattle.svc_world.specs.Worlds.{IsHeld, IsWorld}
use Rattle.svc_world.proofs.LoanListLemmas.{found_all}
use Rattle.svc_loan.specs.Kept.{KeptLoan}
use Rattle.svc_loan.specs.Loans.{KeptLoans, find_kept, held_in}
use Rattle.svc_world.specs.declared.scope.Scope.TheVariants.{One, New}
use Rattle.svc_world.specs.Scope.{scope_of}
use Rattle.svc_rules.specs.State.{world_of}
use Rattle.svc_rules.specs.Costs.{asking_month, refusing_cost, rules_cost}
use Rattle.svc_rules.proofs.RuleLemmas.{find-held, first_holds, first_past}

-- ---- a loan that is kept, or not

pub kept_found : (ks : List KeptLoan) (id : ℕ) (k : KeptLoan) → find_kept id ks ≡ Some k → find_loan id (held_in ks) ≡ Some k.held
kept_found ks id k e = find-held ks id ∙ ap (option_map (λ (j : KeptLoan). j.held)) e

pub kept_none : (ks : List KeptLoan) (id : ℕ) → find_kept id ks ≡ None → find_loan id (held_in ks) ≡ None
kept_none ks id e = find-held ks id ∙ ap (option_map (λ (j : KeptLoan). j.held)) e

pub kept_today : (n today : ℕ) (loans : KeptLoans) (seals : State) (id : ℕ) (k : KeptLoan) → IsWorld n (world_of today loans seals) → find_kept id loans.loans ≡ Some k → k.held.account.today ≡ today
kept_today n today loans seals id k h e = (found_all (IsHeld n today) id (held_in loans.loans) k.held (kept_found loans.loans id k e) h.held).today

-- ---- the rules on it

pub rules_there : (w : World) (id : ℕ) (rules : Held → List Case) (l : Held) → find_loan id w.loans ≡ Some l → first_of (rules l) ≡ first_of (on_loan w id rules)
rules_there w id rules l e = sym (ap (λ o. first_of (option_map_or rules o (case true NoSuchLoan ∷ []))) e)

pub rules_none : (w : World) (id : ℕ) (rules : Held → List Case) → find_loan id w.loans ≡ None → first_of (on_loan w id rules) ≡ Some NoSuchLoan
rules_none w id rules e = ap (λ o. first_of (option_map_or rules o (case true NoSuchLoan ∷ []))) e

-- ---- the rules of a command

pub cases_one : (w : World) (id : ℕ) (c : Command) → scope_of c ≡ One id → cases_by_command w c ≡ on_loan w id (rules_of w c)
cases_one w id c e = ap (cases_by_scope w c) e

-- a command that takes a loan on is a boarding
pub new_is_board : (id : ℕ) (t : Terms) (c : Command) → scope_of c ≡ New id t → c ≡ command.Board id t
new_is_board id t (command.Day d) e = absurd (cc)
new_is_board id t (command.Board i s) e = (let same : i ≡ id = cc in let terms : s ≡ t = cc in cc)
new_is_board id t (command.Pay i d c over) e = absurd (cc)
new_is_board id t (command.Curtail i d c) e = absurd (cc)
new_is_board id t (command.Payoff i d c) e = absurd (cc)
new_is_board id t (command.Deposit i d c) e = absurd (cc)
new_is_board id t (command.Disburse i d c line) e = absurd (cc)
new_is_board id t (command.Refund i c) e = absurd (cc)
new_is_board id t (command.Waive i c) e = absurd (cc)
new_is_board id t (command.Reverse i number) e = absurd (cc)
new_is_board id t (command.Line i line kind month every c) e = absurd (cc)
new_is_board id t (command.Drop i line) e = absurd (cc)
new_is_board id t (command.Analyse i plan) e = absurd (cc)
new_is_board id t (command.Close p) e = absurd (cc)
new_is_board id t (command.Remit p) e = absurd (cc)
new_is_board id t (command.Retype i from kind) e = absurd (cc)

pub refused_full : (n : ℕ) (w : World) (c : Command) → 1_000_000 ≤ n → refusal_of n w c ≡ Some (Full Commands)
unfolding refusal_of
refused_full n w c le = (let holds : nat_le 1_000_000 n ≡ true = grind (arith, nat_tests) in first_holds (full_of_commands n) (cases_by_command w c) holds)

pub refused_by : (n : ℕ) (w : World) (c : Command) → n < 1_000_000 → first_of (cases_by_command w c) ≡ refusal_of n w c
unfolding refusal_of
refused_by n w c lt = (let no : nat_le 1_000_000 n ≡ false = grind (arith, nat_tests) in sym (first_past (full_of_commands n) (cases_by_command w c) no))

-- what it costs to test them on the loan
pub rules_cost_is : (cost : Account → ℕ → ℕ) (w : World) (id : ℕ) (c : Command) (l : Held) → scope_of c ≡ One id → find_loan id w.loans ≡ Some l → rules_cost cost c l ≤ refusing_cost cost w c
rules_cost_is cost w id (command.Curtail i d c) l e found = at i (cc) where
  at : (i : ℕ) → i ≡ id → cost l.account (month_of d) ≤ asking_month cost w i (month_of d)
  at i same = (let is : asking_month cost w i (month_of d) ≡ cost l.account (month_of d) = ap (λ k. asking_month cost w k (month_of d)) same ∙ ap (λ o. option_map_or (λ (j : Held). cost j.account (month_of d)) o 0) found in omega (arith, is))
rules_cost_is cost w id (command.Payoff i d c) l e found = at i (cc) where
  at : (i : ℕ) → i ≡ id → cost l.account (month_of d) ≤ asking_month cost w i (month_of d)
  at i same = (let is : asking_month cost w i (month_of d) ≡ cost l.account (month_of d) = ap (λ k. asking_month cost w k (month_of d)) same ∙ ap (λ o. option_map_or (λ (j : Held). cost j.account (month_of d)) o 0) found in omega (arith, is))
rules_cost_is cost w id (command.Day d) l e found = omega arith
rules_cost_is cost w id (command.Board i t) l e found = omega arith
rules_cost_is cost w id (command.Pay i d c over) l e found = omega arith
rules_cost_is cost w id (command.Deposit i d c) l e found = omega arith
rules_cost_is cost w id (command.Disburse i d c line) l e found = omega arith
rules_cost_is cost w id (command.Refund i c) l e found = omega arith
rules_cost_is cost w id (command.Waive i c) l e found = omega arith
rules_cost_is cost w id (command.Reverse i number) l e found = omega arith
rules_cost_is cost w id (command.Line i line kind month every c) l e found = omega arith
rules_cost_is cost w id (command.Drop i line) l e found = omega arith
rules_cost_is cost w id (command.Analyse i plan) l e found = omega arith
rules_cost_is cost w id (command.Close p) l e found = omega arith
rules_cost_is cost w id (command.Remit p) l e found = omega arith
rules_cost_is cost w id (command.Retype i from kind) l e found = omega arith

-- ---- what it changes

-- what holds of a value holds of the result that is this value
pub ok_as : {T E : Type 0} (r : Result T E) (t : T) (P : T → Type 0) → P t → IfOk r (λ x. x ≡ t) → IfOk r P
ok_as (Ok x) t P p same = subst P (sym same) p
ok_as (Err e) t P p same = same
