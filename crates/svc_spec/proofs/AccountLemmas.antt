-- What boarding, entries, reversals and business days keep of an account, and that its sums stay
-- within the limits.
use Rattle.std.proofs.Common.{◌≡◌, ℕ, suc, ◌+◌, ◌≤◌, ◌<◌, Bool, true, false, cond, List, [], ◌∷◌, ◌++◌, length, get_or, arith, refl, sym, ap, subst, append-nil, length-append}
use Rattle.std.specs.Prelude.{◌==◌, not, is_some, Some, if◌then◌else◌}
use Rattle.std.specs.List.{All, filter, find}
use Rattle.std.proofs.lemmas.List.Elements.{All-cons, All-head, All-tail, All-append}
use Rattle.std.proofs.lemmas.List.Quantifiers.{all_pairs_push}
use Rattle.std.proofs.lemmas.Bool.Decides.{nat_tests}
use Rattle.svc_base.specs.Calendar.{IsDay}
use Rattle.svc_types.specs.declared.terms.Terms.{Terms}
use Rattle.svc_types.specs.declared.account.Entry.{Entry}
use Rattle.svc_types.specs.Live.{is_before, placed, placed_onto, is_reversed, is_live, live_entries}
use Rattle.svc_types.proofs.OrderLemmas.{live_order, live_all, live_posted, live_reversed, order_days}
use Rattle.svc_spec.specs.Books.{AreBooks, IsAct, start}
use Rattle.svc_spec.specs.Entries.{AreEntries}
use Rattle.svc_spec.specs.Events.{events_to, folded, books_at}
use Rattle.svc_spec.specs.Accounts.{Account, begun, posted, reversed_in, advanced_to, live_of, books_of, entry_of, IsAccount, MayBegin, MayPost}
use Rattle.svc_spec.proofs.WholeStep.{books_on}
use Rattle.svc_spec.proofs.EventLemmas.{CanFold, can_fold_start, can_fold_part}

-- ---- what is found

find_more : (p : Entry → Bool) (xs ys : List Entry) → is_some (find p xs) ≡ true → is_some (find p (xs ++ ys)) ≡ true
find_more p [] ys h = cc
find_more p (x ∷ xs) ys h =
    elim (p x) as (λ v. is_some (cond v (Some x) (find p xs)) ≡ true → is_some (cond v (Some x) (find p (xs ++ ys))) ≡ true) [
      | true ↦ λ g. refl
      | false ↦ λ g. find_more p xs ys g
    ] h

-- nothing is found where nothing passes
find_none : (p : Entry → Bool) (xs : List Entry) → All (λ x. p x ≡ false) xs → is_some (find p xs) ≡ false
find_none p [] h = refl
find_none p (x ∷ xs) h = let first = All-head (λ x. p x ≡ false) x xs h in rw first (find_none p xs (All-tail (λ x. p x ≡ false) x xs h))

none_named : (reversals : List (ℕ × ℕ)) (n : ℕ) → All (λ r. (r.0 == n) ≡ false) reversals → is_reversed reversals n ≡ false
none_named [] n h = refl
none_named (r ∷ rs) n h = let first = All-head (λ r. (r.0 == n) ≡ false) r rs h in rw first (none_named rs n (All-tail (λ r. (r.0 == n) ≡ false) r rs h))

nat_apart : (a b : ℕ) → a < b → (a == b) ≡ false
nat_apart a b lt = grind (arith, nat_tests)

-- no entry so far has the number of one that may follow
fresh : (a : Account) (e : Entry) → MayPost a e → is_some (entry_of a e.number) ≡ false
fresh a e may = find_none (λ x. x.number == e.number) a.entries (λ k d lt. nat_apart (get_or a.entries k d).number e.number (may.number k d lt))

other_number : (a : Account) (e : Entry) (n : ℕ) → MayPost a e → is_some (entry_of a n) ≡ true → (n == e.number) ≡ false
other_number a e n may h =
    elim (n == e.number) as (λ v. (n == e.number) ≡ v → v ≡ false) [
      | true ↦ λ same. let is : n ≡ e.number = grind (arith, nat_tests) in absurd (let none = fresh a e may in let some : is_some (entry_of a e.number) ≡ true = subst (λ x. is_some (entry_of a x) ≡ true) is h in cc)
      | false ↦ λ other. refl
    ] refl

-- nor does a reversal name it
pub not_yet_reversed : (a : Account) (e : Entry) → IsAccount a → MayPost a e → is_reversed a.reversals e.number ≡ false
not_yet_reversed a e h may = none_named a.reversals e.number (λ k d lt. other_number a e (get_or a.reversals k d).0 may (h.named k d lt))

-- ---- the live entries of an account

pub live_after_post : (a : Account) (e : Entry) → IsAccount a → MayPost a e → live_of (posted e a) ≡ placed e (live_of a)
live_after_post a e h may = live_posted a.entries a.reversals e (not_yet_reversed a e h may)

pub live_after_reversal : (a : Account) (number by : ℕ) → live_of (reversed_in number by a) ≡ filter (λ e. not (number == e.number)) (live_of a)
live_after_reversal a number by = live_reversed a.entries a.reversals (number, by)

placed_length : (e : Entry) (xs : List Entry) → length (placed e xs) ≡ suc (length xs)
placed_length e [] = refl
placed_length e (x ∷ xs) = elim (is_before e x) as (λ v. length (if v then e ∷ x ∷ xs else x ∷ placed e xs) ≡ suc (suc (length xs))) [ true ↦ refl | false ↦ ap suc (placed_length e xs) ]

placed_onto_length : (xs es : List Entry) → length (placed_onto xs es) ≡ length xs + length es
placed_onto_length xs [] = omega arith
placed_onto_length xs (e ∷ es) = omega (arith, placed_onto_length (placed e xs) es, placed_length e xs)

pub filter_length : {X : Type 0} (p : X → Bool) (xs : List X) → length (filter p xs) ≤ length xs
filter_length p [] = omega arith
filter_length p (x ∷ xs) = elim (p x) as (λ v. length (cond v (x ∷ filter p xs) (filter p xs)) ≤ suc (length xs)) [ true ↦ omega (arith, filter_length p xs) | false ↦ omega (arith, filter_length p xs) ]

pub live_few : (a : Account) → length (live_of a) ≤ length a.entries
unfolding live_entries
live_few a = omega (arith, placed_onto_length [] (filter (is_live a.reversals) a.entries), filter_length (is_live a.reversals) a.entries)

-- they are entries that can be folded
pub live_entries_fold : (a : Account) → IsAccount a → AreEntries a.terms (live_of a)
live_entries_fold a h = record {
  since = live_all (λ e. a.terms.boarded ≤ e.day) a.entries a.reversals h.since;
  acts = live_all (λ e. IsAct e.act) a.entries a.reversals h.acts;
  order = order_days (live_of a) (live_order a.entries a.reversals);
}

pub account_few : (a : Account) → IsAccount a → length (live_of a) ≤ 4_096
account_few a h = let few = h.few in omega (arith, live_few a)

-- its events up to a day can be folded
pub account_folds : (a : Account) (d : ℕ) → IsAccount a → CanFold a.terms (start a.terms) (events_to a.terms (live_of a) d)
account_folds a d h = can_fold_start a.terms (live_of a) d h.terms (live_entries_fold a h) (account_few a h)

pub account_folded : (a : Account) (d : ℕ) → IsAccount a → CanFold a.terms (folded a.terms (start a.terms) (events_to a.terms (live_of a) d)) []
account_folded a d h =
    let all = events_to a.terms (live_of a) d in
    can_fold_part a.terms (start a.terms) all [] h.terms (subst (CanFold a.terms (start a.terms)) (sym (append-nil all)) (account_folds a d h))

-- the books of an account are books of its terms: each sum is within the limits
pub account_books : (a : Account) (d : ℕ) → IsAccount a → AreBooks a.terms (books_of a d)
unfolding books_at
account_books a d h =
    books_on a.terms d (folded a.terms (start a.terms) (events_to a.terms (live_of a) d)) (account_folded a d h).books

-- ---- what keeps an account

pub begun_account : (t : Terms) (d : ℕ) → MayBegin t d → IsAccount (begun t d)
begun_account t d may = record {
  terms = may.terms;
  boarded = may.boarded;
  after = may.after;
  few = omega arith;
  since = λ k x lt. absurd (omega arith);
  until = λ k x lt. absurd (omega arith);
  exist = λ k x lt. absurd (omega arith);
  acts = λ k x lt. absurd (omega arith);
  rising = λ i j x lt within. absurd (omega arith);
  named = λ k x lt. absurd (omega arith);
}

all_push : (P : Entry → Type 0) (xs : List Entry) (e : Entry) → All P xs → P e → All P (xs ++ e ∷ [])
all_push P xs e h p = All-append P xs (e ∷ []) h (All-cons P e [] p (λ k d lt. absurd (omega arith)))

pub posted_account : (a : Account) (e : Entry) → IsAccount a → MayPost a e → IsDay e.day → length a.entries < 4_096 → IsAccount (posted e a)
posted_account a e h may is room = record {
  terms = h.terms;
  boarded = h.boarded;
  after = h.after;
  few = omega (arith, length-append a.entries (e ∷ []));
  since = all_push (λ x. a.terms.boarded ≤ x.day) a.entries e h.since may.since;
  until = all_push (λ x. x.day ≤ a.today) a.entries e h.until may.until;
  exist = all_push (λ x. IsDay x.day) a.entries e h.exist is;
  acts = all_push (λ x. IsAct x.act) a.entries e h.acts may.act;
  rising = all_pairs_push (λ x y. x.number < y.number) a.entries e h.rising (λ k d lt. may.number k d lt);
  named = λ k d lt. find_more (λ x. x.number == (get_or a.reversals k d).0) a.entries (e ∷ []) (h.named k d lt);
}

pub reversed_account : (a : Account) (number by : ℕ) → IsAccount a → is_some (entry_of a number) ≡ true → IsAccount (reversed_in number by a)
reversed_account a number by h there = record {
  terms = h.terms;
  boarded = h.boarded;
  after = h.after;
  few = h.few;
  since = h.since;
  until = h.until;
  exist = h.exist;
  acts = h.acts;
  rising = h.rising;
  named = All-append (λ r. is_some (entry_of a r.0) ≡ true) a.reversals ((number, by) ∷ []) h.named (All-cons (λ r. is_some (entry_of a r.0) ≡ true) (number, by) [] there (λ k d lt. absurd (omega arith)));
}

pub advanced_account : (a : Account) (d : ℕ) → IsAccount a → a.today ≤ d → IsAccount (advanced_to d a)
advanced_account a d h later = let after = h.after in record {
  terms = h.terms;
  boarded = h.boarded;
  after = omega arith;
  few = h.few;
  since = h.since;
  until = λ k x lt. let early = h.until k x lt in omega arith;
  exist = h.exist;
  acts = h.acts;
  rising = h.rising;
  named = h.named;
}
