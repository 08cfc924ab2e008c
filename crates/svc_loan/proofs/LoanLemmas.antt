-- What a loan's calls leave of what is kept of it.
use Rattle.std.proofs.Common.{◌≡◌, ℕ, ◌+◌, ◌≤◌, ◌<◌, min, true, false, List, [], ◌∷◌, ◌++◌, take, cond, arith, refl, sym, ap, subst, ◌∙◌}
use Rattle.std.specs.Prelude.{nat_le, ◌==◌, Some}
use Rattle.std.specs.List.{All, find}
use Rattle.std.proofs.lemmas.List.Elements.{All-head, All-tail}
use Rattle.std.proofs.lemmas.Bool.Decides.{nat_tests}
use Rattle.std.proofs.lemmas.List.{take_all}
use Rattle.svc_base.specs.Calendar.{month_of, months_end}
use Rattle.svc_types.specs.declared.requests.TypeChange.{TypeChange}
use Rattle.svc_types.specs.declared.account.Entry.{Entry}
use Rattle.svc_types.specs.declared.terms.Terms.{Terms}
use Rattle.svc_spec.specs.Books.{IsAct}
use Rattle.svc_spec.specs.Accounts.{Account, IsAccount, MayBegin, MayPost, entry_of, begun, posted, reversed_in, advanced_to}
use Rattle.svc_spec.proofs.AccountLemmas.{begun_account}
use Rattle.remit_types.specs.declared.dues.Carry.{Carry}
use Rattle.svc_world.specs.Held.{Held, boarded_month, with_entry, with_reversal, on_day, with_type}
use Rattle.svc_world.proofs.AgreeLemmas.{AgreeTo, entry_agrees, reversal_agrees, day_agrees, type_agrees}
use Rattle.svc_loan.specs.declared.moved.Moved.{Moved}
use Rattle.svc_loan.specs.Closed.{carries_to, MayClose}
use Rattle.svc_loan.specs.Kept.{held_of}
use Rattle.svc_loan.specs.Loan.{IsLoan}
use Rattle.svc_loan.specs.Moved.{moved_of}
use Rattle.svc_loan.proofs.ClosedLemmas.{carries_length, carries_fewer, carries_agree}

-- ---- the closed months

carries_taken : (a : Account) (types : List TypeChange) (k n : ℕ) → take k (carries_to a types n) ≡ carries_to a types (min k n)
carries_taken a types k n = elim (nat_le k n) as (λ v. nat_le k n ≡ v → take k (carries_to a types n) ≡ carries_to a types (min k n)) [
  | true ↦ λ e. let le : k ≤ n = grind (arith, nat_tests) in let same : min k n ≡ k = omega arith in carries_fewer a types k n le ∙ ap (carries_to a types) (sym same)
  | false ↦ λ e.
      let lt : n < k = grind (arith, nat_tests) in
      let same : min k n ≡ n = omega arith in
      take_all k (carries_to a types n) (omega (arith, carries_length a types n)) ∙ ap (carries_to a types) (sym same)
] refl

-- of two states of a loan that agree on the months before m, those that are before it stay
pub stays : (m : ℕ) (l k : Held) (n stay : ℕ) (cs : List Carry) → AgreeTo m l k → boarded_month l + min stay n ≤ m → cs ≡ carries_to l.account l.types n → take stay cs ≡ carries_to k.account k.types (min stay n)
stays m l k n stay cs agree le h = ap (take stay) h ∙ carries_taken l.account l.types stay n ∙ sym (carries_agree m l k (min stay n) agree le)

-- and where all closed months are before it, all stay
pub all_stay : (m : ℕ) (l k : Held) (n : ℕ) (cs : List Carry) → AgreeTo m l k → boarded_month l + n ≤ m → cs ≡ carries_to l.account l.types n → cs ≡ carries_to k.account k.types n
all_stay m l k n cs agree le h = h ∙ sym (carries_agree m l k n agree le)

-- what holds of all entries holds of the one with a number
found_entry : (P : Entry → Type 0) (number : ℕ) (es : List Entry) (e : Entry) → find (λ (x : Entry). x.number == number) es ≡ Some e → All P es → P e
found_entry P number [] e found all = absurd (cc)
found_entry P number (x ∷ xs) e found all =
    elim (x.number == number) as (λ v. cond v (Some x) (find (λ (y : Entry). y.number == number) xs) ≡ Some e → P e) [
      | true ↦ λ is. let same : x ≡ e = cc in subst P same (All-head P x xs all)
      | false ↦ λ is. found_entry P number xs e is (All-tail P x xs all)
    ] found

pub entry_act : (a : Account) (number : ℕ) (e : Entry) → IsAccount a → entry_of a number ≡ Some e → IsAct e.act
entry_act a number e h found = found_entry (λ (x : Entry). IsAct x.act) number a.entries e found h.acts

pub entry_since : (a : Account) (number : ℕ) (e : Entry) → IsAccount a → entry_of a number ≡ Some e → a.terms.boarded ≤ e.day
entry_since a number e h found = found_entry (λ (x : Entry). a.terms.boarded ≤ x.day) number a.entries e found h.since

pub posted_stays : (a b : Account) (types : List TypeChange) (e : Entry) (n stay : ℕ) (cs : List Carry) → IsAccount a → MayPost a e → b ≡ posted e a → month_of a.terms.boarded + stay ≤ month_of e.day → cs ≡ carries_to a types n → take stay cs ≡ carries_to b types (min stay n)
posted_stays a b types e n stay cs h may is le kept =
    let l = held_of 0 a [] types in
    rw is (stays (month_of e.day) l (with_entry e l) n stay cs (entry_agrees l e h may) (omega arith) kept)

pub reversed_stays : (a b : Account) (types : List TypeChange) (number by : ℕ) (e : Entry) (n stay : ℕ) (cs : List Carry) → IsAccount a → entry_of a number ≡ Some e → b ≡ reversed_in number by a → month_of a.terms.boarded + stay ≤ month_of e.day → cs ≡ carries_to a types n → take stay cs ≡ carries_to b types (min stay n)
reversed_stays a b types number by e n stay cs h found is le kept =
    let l = held_of 0 a [] types in
    rw is (stays (month_of e.day) l (with_reversal number by l) n stay cs (reversal_agrees l number by e h found) (omega arith) kept)

pub retyped_stays : (a : Account) (types : List TypeChange) (c : TypeChange) (n stay : ℕ) (cs : List Carry) → month_of a.terms.boarded + stay ≤ c.from → cs ≡ carries_to a types n → take stay cs ≡ carries_to a (types ++ c ∷ []) (min stay n)
retyped_stays a types c n stay cs le kept =
    let l = held_of 0 a [] types in
    stays c.from l (with_type c l) n stay cs (type_agrees l c) (omega arith) kept

pub advanced_stays : (a b : Account) (types : List TypeChange) (d n : ℕ) (cs : List Carry) → a.today ≤ d → b ≡ advanced_to d a → month_of a.terms.boarded + n ≤ month_of a.today → cs ≡ carries_to a types n → cs ≡ carries_to b types n
advanced_stays a b types d n cs later is ended kept =
    let l = held_of 0 a [] types in
    rw is (all_stay (month_of a.today) l (on_day d l) n cs (day_agrees l d later) ended kept)

-- ---- the whole of what holds

pub remade : (a : Account) (types : List TypeChange) (m : Moved) (n n' : ℕ) (cs : List Carry) → MayClose a n → cs ≡ carries_to a types n → n' ≡ n → m ≡ moved_of a → IsLoan a types m n' cs
remade a types m n n' cs may kept e moved = record {
  may = subst (MayClose a) (sym e) may;
  kept = kept ∙ ap (carries_to a types) (sym e);
  moved = moved;
}

none_closed : (a : Account) (types : List TypeChange) → [] ≡ carries_to a types 0
unfolding carries_to
none_closed a types = refl

pub begun_loan : (t : Terms) (d : ℕ) (a : Account) (types : List TypeChange) (m : Moved) (n : ℕ) (cs : List Carry) → MayBegin t d → month_of d < months_end → a ≡ begun t d → m ≡ moved_of (begun t d) → n ≡ 0 → cs ≡ [] → IsLoan a types m n cs
begun_loan t d a types m n cs h calendar is moved none no_carries =
    let after = h.after in
    let may : MayClose (begun t d) 0 = record { account = begun_account t d h; calendar = calendar; ended = omega arith } in
    rw (is, none, no_carries) (record { may = may; kept = none_closed (begun t d) types; moved = moved })
