-- What an entry, a reversal, a business day and a change of type leave as it was: the books at the ends of
-- earlier months, and the dues of these months.
use Rattle.std.proofs.Common.{◌≡◌, ℕ, zero, suc, ◌+◌, ◌-◌, ◌≤◌, ◌<◌, min, true, false, ◌∷◌, arith, refl, sym, ap, ◌∙◌}
use Rattle.std.specs.Prelude.{nat_lt, nat_le, fold, Option, Some, IfSome}
use Rattle.std.proofs.lemmas.Bool.Decides.{nat_tests}
use Rattle.std.proofs.lemmas.List.Sums.{fold_push}
use Rattle.svc_base.specs.Calendar.{month_of, last_day}
use Rattle.svc_base.specs.DayLemmas.{month_length_most}
use Rattle.svc_types.specs.declared.terms.Terms.{Terms}
use Rattle.svc_types.specs.declared.account.Entry.{Entry}
use Rattle.svc_types.specs.declared.requests.TypeChange.{TypeChange}
use Rattle.svc_spec.specs.Books.{start}
use Rattle.svc_spec.specs.Accounts.{Account, IsAccount, MayPost, books_of, entry_of, posted, reversed_in, advanced_to}
use Rattle.svc_spec.specs.Months.{end_day, books_at_end, month_facts}
use Rattle.svc_spec.proofs.MonthLemmas.{before_boarded, from_boarded}
use Rattle.svc_spec.proofs.SameLemmas.{posted_same, reversed_same}
use Rattle.remit_types.specs.Dues.{loan_month, carried, due_between}
use Rattle.svc_world.specs.Held.{Held, boarded_month, with_entry, with_reversal, on_day, with_type}
use Rattle.svc_world.specs.LoanDues.{type_change, counting, kind_in, month_of_loan, first_months, carried_to, carry_of, due_of}

-- two accounts of one loan that have the same books at the ends of all months before one
pub record AgreeBefore (m : ℕ) (a b : Account) : Type 0 where
  pub terms : b.terms ≡ a.terms
  pub ends : (p : ℕ) → p < m → books_at_end b p ≡ books_at_end a p

-- from the books at a day to those at the end of a month
same_end : (a b : Account) (p : ℕ) → b.terms ≡ a.terms → (month_of a.terms.boarded ≤ p → books_of b (end_day b p) ≡ books_of a (end_day a p)) → books_at_end b p ≡ books_at_end a p
unfolding books_at_end
same_end a b p same later =
    elim (nat_lt p (month_of a.terms.boarded)) as (λ v. nat_lt p (month_of a.terms.boarded) ≡ v → books_at_end b p ≡ books_at_end a p) [
      | true ↦ λ e.
          let lt : p < month_of a.terms.boarded = grind (arith, nat_tests) in
          let lt' : p < month_of b.terms.boarded = rw same lt in
          before_boarded b p lt' ∙ ap (λ (t : Terms). start t) same ∙ sym (before_boarded a p lt)
      | false ↦ λ e.
          let le : month_of a.terms.boarded ≤ p = grind (arith, nat_tests) in
          let le' : month_of b.terms.boarded ≤ p = rw same le in
          from_boarded b p le' ∙ later le ∙ sym (from_boarded a p le)
    ] refl

-- the end of a month before that of a day is before the day
end_early : (p d today : ℕ) → p < month_of d → min (last_day p) today < d
end_early p d today lt = let most = month_length_most p in omega arith

pub posted_agrees : (a : Account) (e : Entry) → IsAccount a → MayPost a e → AgreeBefore (month_of e.day) a (posted e a)
posted_agrees a e h may = record {
  terms = refl;
  ends = λ p lt. same_end a (posted e a) p refl (λ le. posted_same a e (end_day a p) h may (end_early p e.day a.today lt));
}

early_if : (o : Option Entry) (e : Entry) (d : ℕ) → o ≡ Some e → d < e.day → IfSome o (λ x. d < x.day)
early_if o e d is lt = rw is lt

pub reversed_agrees : (a : Account) (number by : ℕ) (e : Entry) → IsAccount a → entry_of a number ≡ Some e → AgreeBefore (month_of e.day) a (reversed_in number by a)
reversed_agrees a number by e h is = record {
  terms = refl;
  ends = λ p lt. same_end a (reversed_in number by a) p refl (λ le. reversed_same a number by (end_day a p) h (early_if (entry_of a number) e (end_day a p) is (end_early p e.day a.today lt)));
}

-- on a later business day the months before the old one's are as they were
pub advanced_agrees : (a : Account) (d : ℕ) → a.today ≤ d → AgreeBefore (month_of a.today) a (advanced_to d a)
advanced_agrees a d le = record {
  terms = refl;
  ends = λ p lt. same_end a (advanced_to d a) p refl (λ from.
      let most = month_length_most p in
      let same : min (last_day p) d ≡ min (last_day p) a.today = omega arith in
      ap (books_of a) same);
}

pub same_facts : (m : ℕ) (a b : Account) (p : ℕ) → AgreeBefore m a b → p < m → month_facts b p ≡ month_facts a p
same_facts m a b p h lt = rw (h.ends p lt, h.ends (p - 1) (omega arith)) refl

-- two states of a loan that agree in accounts and types on all months before one
pub record AgreeTo (m : ℕ) (l k : Held) : Type 0 where
  pub account : AgreeBefore m l.account k.account
  pub kinds : (p : ℕ) → p < m → kind_in k.account.terms k.types p ≡ kind_in l.account.terms l.types p

same_month : (m : ℕ) (l k : Held) (p : ℕ) → AgreeTo m l k → p < m → month_of_loan k.account k.types p ≡ month_of_loan l.account l.types p
same_month m l k p h lt =
    ap (λ kind. loan_month kind (month_facts k.account p)) (h.kinds p lt)
    ∙ ap (λ f. loan_month (kind_in l.account.terms l.types p) f) (same_facts m l.account k.account p h.account lt)

same_months : (m : ℕ) (l k : Held) (n : ℕ) → AgreeTo m l k → boarded_month l + n ≤ m → first_months k.account k.types n ≡ first_months l.account l.types n
same_months m l k zero h le = refl
same_months m l k (suc n) h le =
    let start : boarded_month k ≡ boarded_month l = ap (λ (t : Terms). month_of t.boarded) h.account.terms in
    let one = same_month m l k (boarded_month l + n) h (omega arith) in
    let rest = same_months m l k n h (omega arith) in
    ap (λ b. month_of_loan k.account k.types (b + n) ∷ first_months k.account k.types n) start
    ∙ ap (λ x. x ∷ first_months k.account k.types n) one
    ∙ ap (λ xs. month_of_loan l.account l.types (boarded_month l + n) ∷ xs) rest

pub same_carried : (m : ℕ) (l k : Held) (p : ℕ) → AgreeTo m l k → boarded_month l ≤ m → p < m → carry_of k p ≡ carry_of l p
unfolding carried_to
same_carried m l k p h from lt =
    let start : boarded_month k ≡ boarded_month l = ap (λ (t : Terms). month_of t.boarded) h.account.terms in
    let months = same_months m l k (p + 1 - boarded_month l) h (omega arith) in
    ap (λ b. carried k.account.terms (first_months k.account k.types (p + 1 - b))) start
    ∙ ap (λ t. carried t (first_months k.account k.types (p + 1 - boarded_month l))) h.account.terms
    ∙ ap (carried l.account.terms) months

-- the dues of months before it are as they were
pub same_due : (m : ℕ) (l k : Held) (p : ℕ) → AgreeTo m l k → boarded_month l ≤ m → p < m → due_of k p ≡ due_of l p
same_due m l k p h from lt =
    let one = same_carried m l k (p - 1) h from (omega arith) in
    let two = same_carried m l k p h from lt in
    ap (λ c. due_between p c (carry_of k p)) one ∙ ap (λ c. due_between p (carry_of l (p - 1)) c) two

pub entry_agrees : (l : Held) (e : Entry) → IsAccount l.account → MayPost l.account e → AgreeTo (month_of e.day) l (with_entry e l)
entry_agrees l e h may = record { account = posted_agrees l.account e h may; kinds = λ p lt. refl }

pub reversal_agrees : (l : Held) (number by : ℕ) (e : Entry) → IsAccount l.account → entry_of l.account number ≡ Some e → AgreeTo (month_of e.day) l (with_reversal number by l)
reversal_agrees l number by e h is = record { account = reversed_agrees l.account number by e h is; kinds = λ p lt. refl }

pub day_agrees : (l : Held) (d : ℕ) → l.account.today ≤ d → AgreeTo (month_of l.account.today) l (on_day d l)
day_agrees l d le = record { account = advanced_agrees l.account d le; kinds = λ p lt. refl }

counting_later : (p : ℕ) (best c : TypeChange) → p < c.from → counting p best c ≡ best
counting_later p best c lt =
    let no : nat_le c.from p ≡ false = grind (arith, nat_tests) in
    rw no refl

-- a change of type leaves the months before it
pub type_agrees : (l : Held) (c : TypeChange) → AgreeTo c.from l (with_type c l)
type_agrees l c = record {
  account = record { terms = refl; ends = λ p lt. refl };
  kinds = λ p lt.
      let best = fold (counting p) (type_change 0 l.account.terms.kind) l.types in
      ap (λ (x : TypeChange). x.kind) (fold_push (counting p) (type_change 0 l.account.terms.kind) l.types c ∙ counting_later p best c lt);
}
