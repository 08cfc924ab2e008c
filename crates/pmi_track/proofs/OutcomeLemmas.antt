-- What is said of an insured loan, from what was found of it.
use Rattle.std.proofs.Common.{◌≡◌, ℕ, ◌+◌, ◌≤◌, List, [], ◌∷◌, arith, refl, ap}
use Rattle.std.specs.Prelude.{true, Some, None}
use Rattle.std.specs.List.{sum_by}
use Rattle.std.specs.Option.{option_map, option_map_or}
use Rattle.svc_types.specs.declared.terms.Terms.{Terms}
use Rattle.svc_types.specs.declared.replies.Refusal.TheVariants.{NoSuchLoan}
use Rattle.svc_spec.specs.Accounts.{Account}
use Rattle.svc_world.specs.Held.{Held, find_loan}
use Rattle.svc_world.specs.World.{World, Accepted, world}
use Rattle.svc_world.specs.Refusals.{case, first_of, on_loan}
use Rattle.pmi_track.specs.declared.insured_loan.InsuredLoan.{InsuredLoan}
use Rattle.pmi_track.specs.Insurance.{months_since}
use Rattle.pmi_track.specs.Loans.{OfLoan, terms_in, day_refusal}
use Rattle.pmi_track.specs.Insured.{asked_cases, insurance_refusal, asked_cost, account_cost, outcome_cost}
use Rattle.pmi_track.proofs.LoanLemmas.{HasLoan}

-- ---- refusals

pub not_there : (w : World) (i : InsuredLoan) → find_loan i.loan w.loans ≡ None → insurance_refusal w i ≡ Some NoSuchLoan
not_there w i e = ap (λ o. first_of (option_map_or (asked_cases w i.asked) o (case true NoSuchLoan ∷ []))) e

pub asked_refusal : (h : List Accepted) (i : InsuredLoan) (day : ℕ) → i.asked ≡ Some day → insurance_refusal (world h) i ≡ day_refusal h i.loan day
asked_refusal h i day e = ap (λ a. first_of (on_loan (world h) i.loan (asked_cases (world h) a))) e

-- a loan with no terms is not there
pub no_terms : (w : World) (id : ℕ) → terms_in w id ≡ None → find_loan id w.loans ≡ None
no_terms w id e =
    elim (find_loan id w.loans) as (λ o. option_map (λ (l : Held). l.account.terms) o ≡ None → o ≡ None) [
      | None ↦ λ x. refl
      | Some l ↦ λ x. absurd (cc)
    ] e

-- ---- outcomes

-- ---- steps

pub outcome_steps : (cost : Account → ℕ → ℕ) (h : List Accepted) (i : InsuredLoan) (t : Terms) (k : HasLoan h i.loan t)
    → outcome_cost cost (world h) i ≡ asked_cost cost i.asked k.held.account + sum_by (cost k.held.account) (months_since k.held.account)
outcome_steps cost h i t k = ap (λ o. option_map_or (λ (l : Held). account_cost cost i.asked l.account) o 0) k.found

-- those of the request alone
pub first_steps : (cost : Account → ℕ → ℕ) (h : List Accepted) (i : InsuredLoan) (t : Terms) (old new : ℕ) → HasLoan h i.loan t
    → OfLoan h i.loan (λ a. new ≤ old + asked_cost cost i.asked a) → new ≤ old + outcome_cost cost (world h) i
first_steps cost h i t old new k first =
    let e = outcome_steps cost h i t k in
    let one = first k.held k.found in
    omega (arith, e, one)
