-- How many steps it takes to fold a loan anew from boarding.
use Rattle.std.proofs.Common.{◌≡◌, ℕ, zero, suc, ◌+◌, ◌-◌, ◌*◌, ◌≤◌, Bool, true, false, cond, List, [], ◌∷◌, ◌++◌, length, map, get_or, arith, refl, ap, ◌∙◌, length-append}
use Rattle.std.proofs.lemmas.List.{length-map}
use Rattle.std.specs.Prelude.{nat_le, min, if◌then◌else◌}
use Rattle.std.specs.List.{All, filter}
use Rattle.std.proofs.lemmas.List.Elements.{All-cons, All-head, All-tail}
use Rattle.svc_base.specs.Calendar.{month_of}
use Rattle.svc_base.proofs.CalendarLemmas.{day_after_least}
use Rattle.svc_types.specs.declared.terms.Terms.{Terms}
use Rattle.svc_types.specs.declared.books.Books.{Books}
use Rattle.svc_types.specs.declared.account.Entry.{Entry}
use Rattle.svc_types.specs.declared.account.Event.{Event}
use Rattle.svc_types.proofs.OrderLemmas.{live_all}
use Rattle.svc_spec.specs.Installments.{due_month, due_day}
use Rattle.svc_spec.specs.Step.{step}
use Rattle.svc_spec.specs.Books.{start}
use Rattle.svc_spec.specs.Events.{month_mark, month_marks_from, month_marks, late_day, late_mark, late_marks_from, late_marks, up_to, event_of, entry_events, insert_event, by_day, events_to, folded, books_at}
use Rattle.svc_spec.specs.Accounts.{Account, live_of, books_of, IsAccount}
use Rattle.svc_spec.specs.Months.{books_at_end, entries_from, cost_of_month}
use Rattle.svc_spec.proofs.SettlingLemmas.{nat_le-true, from_nat_le}
use Rattle.svc_spec.proofs.EventLemmas.{events_all, start_next}
use Rattle.svc_spec.proofs.MonthLemmas.{boarded_some, before_boarded}
use Rattle.svc_spec.proofs.AccountLemmas.{filter_length}
use Rattle.svc_spec.proofs.NextLemmas.{step_advances, books_last}

-- ---- how many events there are

pub insert_length : (e : Event) (xs : List Event) → length (insert_event e xs) ≡ suc (length xs)
insert_length e [] = refl
insert_length e (x ∷ xs) = elim (nat_le e.day x.day) as (λ v. length (if v then e ∷ x ∷ xs else x ∷ insert_event e xs) ≡ suc (suc (length xs))) [ true ↦ refl | false ↦ ap suc (insert_length e xs) ]

pub by_day_length : (xs : List Event) → length (by_day xs) ≡ length xs
by_day_length [] = refl
by_day_length (x ∷ xs) = omega (arith, insert_length x (by_day xs), by_day_length xs)

pub months_length : (m n : ℕ) → length (month_marks_from m n) ≡ n
months_length m zero = refl
months_length m (suc n) = omega (arith, months_length (m + 1) n)

-- the grace of an installment ends after its due day
pub late_within : (t : Terms) (k d : ℕ) → late_day t k ≤ d → due_month t k ≤ month_of d
late_within t k d le = omega (arith, day_after_least (due_day t k) (t.grace + 1))

-- late marks up to a day are of installments that are due by its month
lates_length : (t : Terms) (k n d : ℕ) → 1 ≤ k → length (up_to d (late_marks_from t k n)) ≤ month_of d + 1 - due_month t k
lates_length t k zero d low = omega arith
lates_length t k (suc n) d low =
    let rest = lates_length t (k + 1) n d (omega arith) in
    let next : due_month t (k + 1) ≡ due_month t k + 1 = omega arith in
    elim (nat_le (late_day t k) d) as (λ v. nat_le (late_day t k) d ≡ v → length (cond v (late_mark t k ∷ up_to d (late_marks_from t (k + 1) n)) (up_to d (late_marks_from t (k + 1) n))) ≤ month_of d + 1 - due_month t k) [
      | true ↦ λ e. let due = late_within t k d (from_nat_le (late_day t k) d e) in omega (arith, rest)
      | false ↦ λ e. omega (arith, rest)
    ] refl

-- at most one for each month after the boarded month, one for each installment that is due, and
-- one for each entry
events_length : (t : Terms) (live : List Entry) (d : ℕ) → length (events_to t live d) ≤ (month_of d - month_of t.boarded) + (month_of d + 1 - t.first) + length live
unfolding events_to
events_length t live d =
    let months = month_marks t d in
    let lates = late_marks t d in
    let entries = entry_events live d in
    let first : due_month t 1 ≡ t.first = omega arith in
    let late = lates_length t 1 t.term d (omega arith) in
    omega (arith, by_day_length (months ++ lates ++ entries), length-append (months ++ lates) entries, length-append months lates, months_length (month_of t.boarded + 1) (month_of d - month_of t.boarded), late, filter_length (λ (e : Event). nat_le e.day d) (map event_of live), length-map live event_of)

-- ---- how many installments can be satisfied

-- the number of the open installment, where those up to a month are satisfied
abbrev pub reached : Terms → ℕ → ℕ
reached t d = 1 + (month_of d + 2 - t.first)

step_reaches : (t : Terms) (e : Event) (d : ℕ) (b : Books) → 1 ≤ b.next → e.day ≤ d → b.next ≤ reached t d → (step t e b).next ≤ reached t d
step_reaches t e d b low le h = let all = step_advances t e b in let high = all.high in omega arith

step_rises : (t : Terms) (e : Event) (b : Books) → 1 ≤ b.next → 1 ≤ (step t e b).next
step_rises t e b low = let all = step_advances t e b in let rises = all.low in omega arith

folded_reaches : (t : Terms) (d : ℕ) (b : Books) (es : List Event) → 1 ≤ b.next → All (λ e. e.day ≤ d) es → b.next ≤ reached t d → (folded t b es).next ≤ reached t d
folded_reaches t d b [] low all h = h
folded_reaches t d b (e ∷ es) low all h =
    folded_reaches t d (step t e b) es (step_rises t e b low) (All-tail (λ e. e.day ≤ d) e es all) (step_reaches t e d b low (All-head (λ e. e.day ≤ d) e es all) h)

months_by : (m n d : ℕ) → m + n ≤ month_of d + 1 → All (λ e. e.day ≤ d) (month_marks_from m n)
months_by m zero d le = λ k x lt. absurd (omega arith)
months_by m (suc n) d le = All-cons (λ e. e.day ≤ d) (month_mark m) (month_marks_from (m + 1) n) (omega arith) (months_by (m + 1) n d (omega arith))

up_to_by : (d : ℕ) (xs : List Event) → All (λ e. e.day ≤ d) (up_to d xs)
up_to_by d [] = λ k x lt. absurd (omega arith)
up_to_by d (x ∷ xs) =
    elim (nat_le x.day d) as (λ v. nat_le x.day d ≡ v → All (λ e. e.day ≤ d) (cond v (x ∷ up_to d xs) (up_to d xs))) [
      | true ↦ λ e. All-cons (λ e. e.day ≤ d) x (up_to d xs) (from_nat_le x.day d e) (up_to_by d xs)
      | false ↦ λ e. up_to_by d xs
    ] refl

pub events_by : (t : Terms) (live : List Entry) (d : ℕ) → t.boarded ≤ d → All (λ e. e.day ≤ d) (events_to t live d)
events_by t live d after = events_all (λ e. e.day ≤ d) t live d (months_by (month_of t.boarded + 1) (month_of d - month_of t.boarded) d (omega arith)) (up_to_by d (late_marks_from t 1 t.term)) (up_to_by d (map event_of live))

-- the books at a day have no installment satisfied that is due after the next month
pub books_reach : (t : Terms) (live : List Entry) (d : ℕ) → t.boarded ≤ d → (books_at t live d).next ≤ reached t d
unfolding books_at
books_reach t live d after = folded_reaches t d (start t) (events_to t live d) (omega (arith, start_next t)) (events_by t live d after) (omega (arith, start_next t))

-- ---- the cost of the boarded month

filter_same : (p : Entry → Bool) (xs : List Entry) → All (λ x. p x ≡ true) xs → filter p xs ≡ xs
filter_same p [] h = refl
filter_same p (x ∷ xs) h = let first = All-head (λ x. p x ≡ true) x xs h in rw first (ap (λ ys. x ∷ ys) (filter_same p xs (All-tail (λ x. p x ≡ true) x xs h)))

-- all live entries are of the boarded month or a later one
all_from_boarded : (a : Account) → IsAccount a → entries_from a (month_of a.terms.boarded) ≡ live_of a
all_from_boarded a h =
    let m = month_of a.terms.boarded in
    filter_same (λ e. nat_le m (month_of e.day)) (live_of a) (live_all (λ e. nat_le m (month_of e.day) ≡ true) a.entries a.reversals (λ k d lt. let since = h.since k d lt in nat_le-true m (month_of (get_or a.entries k d).day) (omega arith)))

-- the cost of the boarded month is over all live entries and all installments
pub boarded_cost : (a : Account) → IsAccount a → cost_of_month a (month_of a.terms.boarded) ≡ length (live_of a) + 2 * (month_of a.today + 1 - month_of a.terms.boarded) + min a.terms.term (month_of a.today + 2 - a.terms.first) + 4
unfolding cost_of_month
boarded_cost a h =
    let m = month_of a.terms.boarded in
    let some = boarded_some a.terms.boarded h.boarded in
    let all = ap length (all_from_boarded a h) in
    let first : (books_at_end a (m - 1)).next ≡ 1 = ap (λ (b : Books). b.next) (before_boarded a (m - 1) (omega arith)) ∙ start_next a.terms in
    rw (all, first) (omega arith)

-- a fold from boarding up to a day counts at most the cost of the boarded month
pub refold_within : (a : Account) (d : ℕ) → IsAccount a → a.terms.boarded ≤ d → d ≤ a.today → length (events_to a.terms (live_of a) d) + (books_of a d).next ≤ cost_of_month a (month_of a.terms.boarded) + 1
refold_within a d h after until =
    let cost = boarded_cost a h in
    let events = events_length a.terms (live_of a) d in
    let reach = books_reach a.terms (live_of a) d after in
    let term = books_last a d h in
    let first = h.terms.first_low in
    omega arith
