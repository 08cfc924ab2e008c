-- A loan of a history: what holds of it, and what a query for its books is answered.
use Rattle.std.proofs.Common.{◌≡◌, ℕ, ◌≤◌, ◌<◌, true, false, List, [], ◌∷◌, length, arith, refl, sym, ap, ◌∙◌, subst}
use Rattle.std.specs.Prelude.{nat_lt, Some, None}
use Rattle.std.specs.Option.{option_map, option_map_or}
use Rattle.std.proofs.lemmas.Bool.Decides.{nat_tests}
use Rattle.svc_base.specs.Calendar.{IsDay, IsReadDay, month_of, first_day}
use Rattle.svc_base.specs.DayLemmas.{month_length_least}
use Rattle.svc_types.specs.declared.terms.Terms.{Terms}
use Rattle.svc_types.specs.declared.books.Books.{Books}
use Rattle.svc_types.specs.declared.replies.Refusal.TheVariants.{NoSuchLoan, FutureDated}
use Rattle.svc_types.specs.declared.requests.Query.TheVariants as query
use Rattle.svc_types.specs.Terms.{IsSound}
use Rattle.svc_spec.specs.Accounts.{IsAccount, books_of}
use Rattle.svc_spec.specs.Books.{AreBooks}
use Rattle.svc_spec.proofs.AccountLemmas.{account_books}
use Rattle.svc_world.specs.declared.answer.Answer.{Answer}
use Rattle.svc_world.specs.Answers.{answer_from, answer_to, books_answer, query_refusal, refusal_from}
use Rattle.svc_world.specs.Held.{Held, find_loan}
use Rattle.svc_world.specs.World.{World, Accepted, world}
use Rattle.svc_world.specs.Worlds.{IsHeld}
use Rattle.svc_world.specs.Judging.{IsHistory}
use Rattle.svc_world.specs.Refusals.{case, first_of, on_loan, day_cases}
use Rattle.svc_world.proofs.HistoryLemmas.{is_world}
use Rattle.svc_world.proofs.LoanListLemmas.{found_all}
use Rattle.pmi_track.specs.Loans.{OfLoan, terms_in, day_refusal, books_in, IsLater}

-- ---- a loan that is there

pub record HasLoan (h : List Accepted) (id : ℕ) (t : Terms) : Type 0 where
  pub held : Held
  pub found : find_loan id (world h).loans ≡ Some held
  pub terms : held.account.terms ≡ t
  pub account : IsAccount held.account
  pub on_day : held.account.today ≡ (world h).today
  pub today : IsReadDay (world h).today

pub has_loan : (h : List Accepted) (id : ℕ) (t : Terms) → IsHistory h → terms_in (world h) id ≡ Some t → HasLoan h id t
has_loan h id t is e =
    elim (find_loan id (world h).loans) as (λ o. find_loan id (world h).loans ≡ o → option_map (λ (l : Held). l.account.terms) o ≡ Some t → HasLoan h id t) [
      | None ↦ λ at none. absurd (cc)
      | Some l ↦ λ at same.
          let w = is_world h is in
          let held = found_all (IsHeld (length h) (world h).today) id (world h).loans l at w.held in
          record { held = l; found = at; terms = some_same l.account.terms t same; account = held.limited.account; on_day = held.today; today = w.today }
    ] refl e
  where
    some_same : (a b : Terms) → Some a ≡ Some b → a ≡ b
    some_same a b q = cc

-- it is the only one that is found
pub only_loan : (h : List Accepted) (id : ℕ) (l k : Held) → find_loan id (world h).loans ≡ Some l → find_loan id (world h).loans ≡ Some k → l ≡ k
only_loan h id l k a b = let e : Some l ≡ Some k = sym a ∙ b in cc

pub loan_sound : (h : List Accepted) (id : ℕ) (t : Terms) → HasLoan h id t → IsSound t
loan_sound h id t k = subst IsSound k.terms k.account.terms

pub loan_boarded : (h : List Accepted) (id : ℕ) (t : Terms) → HasLoan h id t → IsReadDay t.boarded
loan_boarded h id t k = subst (λ (x : Terms). IsReadDay x.boarded) k.terms k.account.boarded

pub loan_since : (h : List Accepted) (id : ℕ) (t : Terms) → HasLoan h id t → t.boarded ≤ (world h).today
loan_since h id t k = let le = k.account.after in let e = ap (λ (x : Terms). x.boarded) k.terms in let f = k.on_day in omega arith

pub loan_books : (h : List Accepted) (id : ℕ) (t : Terms) (day : ℕ) (b : Books) → HasLoan h id t → OfLoan h id (λ a. b ≡ books_of a day) → AreBooks t b
loan_books h id t day b k is =
    subst (λ (x : Terms). AreBooks x b) k.terms
    (subst (AreBooks k.held.account.terms) (sym (is k.held k.found)) (account_books k.held.account day k.account))

-- ---- the books of a day

pub refusal_at : (h : List Accepted) (id day : ℕ) → query_refusal h (query.At id day) ≡ first_of (on_loan (world h) id (day_cases (world h) day))
unfolding refusal_from
refusal_at h id day = refl

pub books_told : (h : List Accepted) (id day : ℕ) (x : Answer) (b : Books) (l : Held) → answer_to h (query.At id day) ≡ Some x → books_in x ≡ Some b
    → find_loan id (world h).loans ≡ Some l → b ≡ books_of l.account day
unfolding answer_from
books_told h id day x b l e is found =
    let whole : option_map (λ (k : Held). books_answer k (books_of k.account day)) (Some l) ≡ Some x = ap (option_map (λ (k : Held). books_answer k (books_of k.account day))) (sym found) ∙ e in
    let same : books_answer l (books_of l.account day) ≡ x = cc in
    let told : Some (books_of l.account day) ≡ Some b = ap books_in same ∙ is in
    sym (the_same (books_of l.account day) b told)
  where
    the_same : (p q : Books) → Some p ≡ Some q → p ≡ q
    the_same p q r = cc

pub books_some : (h : List Accepted) (id day : ℕ) (x : Answer) → answer_to h (query.At id day) ≡ Some x → books_in x ≡ None → ⊥
unfolding answer_from
books_some h id day x e absent =
    elim (find_loan id (world h).loans) as (λ o. option_map (λ (k : Held). books_answer k (books_of k.account day)) o ≡ Some x → ⊥) [
      | None ↦ λ at. cc
      | Some l ↦ λ at.
          let same : books_answer l (books_of l.account day) ≡ x = cc in
          let told : Some (books_of l.account day) ≡ None = ap books_in same ∙ absent in
          cc
    ] e

no_case : (w : World) (day : ℕ) (l : Held) → day ≤ w.today → l.account.terms.boarded ≤ day → first_of (day_cases w day l) ≡ None
no_case w day l until since =
    let late : nat_lt w.today day ≡ false = grind (arith, nat_tests) in
    let early : nat_lt day l.account.terms.boarded ≡ false = grind (arith, nat_tests) in
    rw (late, early) refl

-- on the days from boarding to the business day the books are told
pub day_told : (h : List Accepted) (id : ℕ) (t : Terms) (day : ℕ) → HasLoan h id t → day ≤ (world h).today → t.boarded ≤ day → day_refusal h id day ≡ None
day_told h id t day k until since =
    let w = world h in
    let e = ap (λ (x : Terms). x.boarded) k.terms in
    ap (λ o. first_of (option_map_or (day_cases w day) o (case true NoSuchLoan ∷ []))) k.found ∙ no_case w day k.held until (omega (arith, e))

-- after the business day, and before the boarded day, they are not
pub late_refused : (h : List Accepted) (id : ℕ) (t : Terms) (day : ℕ) → HasLoan h id t → (world h).today < day → day_refusal h id day ≡ Some (FutureDated (world h).today)
late_refused h id t day k after =
    let w = world h in
    let late : nat_lt w.today day ≡ true = grind (arith, nat_tests) in
    ap (λ o. first_of (option_map_or (day_cases w day) o (case true NoSuchLoan ∷ []))) k.found ∙ (rw late refl)

-- between them each day is one that a request can name
pub day_between : (h : List Accepted) (id : ℕ) (t : Terms) (day : ℕ) → HasLoan h id t → IsDay day → day ≤ (world h).today → t.boarded ≤ day → IsReadDay day
day_between h id t day k exists until since =
    let first = (loan_boarded h id t k).first in
    let last = k.today.last in
    record { exists = exists; first = omega arith; last = omega arith }

-- ---- first days

pub first_read : (h : List Accepted) (id : ℕ) (t : Terms) (month : ℕ) → HasLoan h id t → IsLater h t month → IsReadDay (first_day month)
first_read h id t month k later =
    let least = month_length_least (month_of (first_day month)) in
    let boarded = loan_boarded h id t k in
    let low = boarded.first in
    let high = k.today.last in
    let since = later.since in
    let until = later.until in
    record { exists = omega arith; first = omega arith; last = omega arith }

pub loan_terms : (h : List Accepted) (id : ℕ) (t : Terms) → HasLoan h id t → (l : Held) → find_loan id (world h).loans ≡ Some l → l.account.terms ≡ t
loan_terms h id t k l found = ap (λ (x : Held). x.account.terms) (only_loan h id l k.held found k.found) ∙ k.terms

pub loan_today : (h : List Accepted) (id : ℕ) (t : Terms) → HasLoan h id t → (l : Held) → find_loan id (world h).loans ≡ Some l → l.account.today ≡ (world h).today
loan_today h id t k l found = ap (λ (x : Held). x.account.today) (only_loan h id l k.held found k.found) ∙ k.on_day
