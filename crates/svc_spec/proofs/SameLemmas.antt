-- An entry changes no books of a day before its own, whether it comes or goes; nor does the business
-- day.
use Rattle.std.proofs.Common.{◌≡◌, ℕ, ◌<◌, true, false, cond, List, [], ◌∷◌, ◌++◌, get_or, arith, refl, sym, ap, ◌∙◌}
use Rattle.std.specs.Prelude.{◌==◌, not, nat_le, IfSome, Option, Some, if◌then◌else◌}
use Rattle.std.specs.List.{All, filter}
use Rattle.std.proofs.lemmas.List.Elements.{All-head, All-tail}
use Rattle.std.proofs.lemmas.Bool.Decides.{nat_tests}
use Rattle.svc_types.specs.declared.terms.Terms.{Terms}
use Rattle.svc_types.specs.declared.account.Entry.{Entry}
use Rattle.svc_types.specs.Live.{is_before, placed}
use Rattle.svc_types.proofs.OrderLemmas.{live_all}
use Rattle.svc_spec.specs.Books.{start}
use Rattle.svc_spec.specs.Events.{month_marks, late_marks, event_of, entry_events, by_day, events_to, folded, books_at}
use Rattle.svc_spec.specs.Accounts.{Account, posted, reversed_in, advanced_to, live_of, books_of, entry_of, IsAccount, MayPost}
use Rattle.svc_spec.proofs.SettlingLemmas.{nat_le-false}
use Rattle.svc_spec.proofs.AccountLemmas.{live_after_post, live_after_reversal}
use Rattle.svc_spec.proofs.DayLemmas.{on}
use Rattle.svc_spec.proofs.FindLemmas.{find_there}

-- where the entries up to a day are the same, the events are, and the books
pub events_same : (t : Terms) (l l' : List Entry) (d : ℕ) → entry_events l d ≡ entry_events l' d → events_to t l d ≡ events_to t l' d
unfolding events_to
events_same t l l' d h = ap (λ es. by_day (month_marks t d ++ late_marks t d ++ es)) h

pub books_same : (t : Terms) (l l' : List Entry) (d : ℕ) → entry_events l d ≡ entry_events l' d → books_at t l d ≡ books_at t l' d
unfolding books_at
books_same t l l' d h = ap (λ es. on d (folded t (start t) es)) (events_same t l l' d h)

-- one more entry past the day
placed_past : (e : Entry) (xs : List Entry) (d : ℕ) → d < e.day → entry_events (placed e xs) d ≡ entry_events xs d
placed_past e [] d lt = rw (nat_le-false e.day d lt)
placed_past e (x ∷ xs) d lt =
    let off = nat_le-false e.day d lt in
    elim (is_before e x) as (λ v. entry_events (if v then e ∷ x ∷ xs else x ∷ placed e xs) d ≡ entry_events (x ∷ xs) d) [
      | true ↦ rw off
      | false ↦ let rest = placed_past e xs d lt in elim (nat_le x.day d) as (λ w. cond w (event_of x ∷ entry_events (placed e xs) d) (entry_events (placed e xs) d) ≡ cond w (event_of x ∷ entry_events xs d) (entry_events xs d)) [ true ↦ ap (λ ys. event_of x ∷ ys) rest | false ↦ rest ]
    ]

from_same : (a b : ℕ) → (a == b) ≡ true → a ≡ b
from_same a b h = grind (arith, nat_tests)

-- the entries with a number are left out, where they are past the day
filter_past : (number : ℕ) (xs : List Entry) (d : ℕ) → All (λ x. number ≡ x.number → d < x.day) xs → entry_events (filter (λ e. not (number == e.number)) xs) d ≡ entry_events xs d
filter_past number [] d h = refl
filter_past number (x ∷ xs) d h =
    let P : Entry → Type 0 = λ x. number ≡ x.number → d < x.day in
    let first = All-head P x xs h in
    let rest = filter_past number xs d (All-tail P x xs h) in
    elim (number == x.number) as (λ v. (number == x.number) ≡ v → entry_events (cond (not v) (x ∷ filter (λ e. not (number == e.number)) xs) (filter (λ e. not (number == e.number)) xs)) d ≡ entry_events (x ∷ xs) d) [
      | true ↦ λ e. let off = nat_le-false x.day d (first (from_same number x.number e)) in rw off rest
      | false ↦ λ e. elim (nat_le x.day d) as (λ w. cond w (event_of x ∷ entry_events (filter (λ e. not (number == e.number)) xs) d) (entry_events (filter (λ e. not (number == e.number)) xs) d) ≡ cond w (event_of x ∷ entry_events xs d) (entry_events xs d)) [ true ↦ ap (λ ys. event_of x ∷ ys) rest | false ↦ rest ]
    ] refl

-- a posted entry changes no books before its day
pub posted_same : (a : Account) (e : Entry) (d : ℕ) → IsAccount a → MayPost a e → d < e.day → books_of (posted e a) d ≡ books_of a d
posted_same a e d h may lt = books_same a.terms (live_of (posted e a)) (live_of a) d (ap (λ l. entry_events l d) (live_after_post a e h may) ∙ placed_past e (live_of a) d lt)

found_past : (o : Option Entry) (e : Entry) (d : ℕ) → o ≡ Some e → IfSome o (λ x. d < x.day) → d < e.day
found_past o e d is h = rw is at h

-- nor does the reversal of an entry
pub reversed_same : (a : Account) (number by d : ℕ) → IsAccount a → IfSome (entry_of a number) (λ e. d < e.day) → books_of (reversed_in number by a) d ≡ books_of a d
reversed_same a number by d h after =
    let P : Entry → Type 0 = λ x. number ≡ x.number → d < x.day in
    let all : All P a.entries = λ k y lt same. found_past (entry_of a number) (get_or a.entries k y) d (find_there a.entries number k y h.rising lt (sym same)) after in
    let live : All P (live_of a) = live_all P a.entries a.reversals all in
    books_same a.terms (live_of (reversed_in number by a)) (live_of a) d (ap (λ l. entry_events l d) (live_after_reversal a number by) ∙ filter_past number (live_of a) d live)

-- the business day is not looked at
pub advanced_same : (a : Account) (today d : ℕ) → books_of (advanced_to today a) d ≡ books_of a d
advanced_same a today d = refl
