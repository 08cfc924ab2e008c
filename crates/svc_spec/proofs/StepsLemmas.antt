-- How many steps it takes to fold a loan's books on from one day to another.
use Rattle.std.proofs.Common.{◌≡◌, ℕ, zero, suc, ◌+◌, ◌-◌, ◌≤◌, ◌<◌, true, false, cond, List, [], ◌∷◌, ◌++◌, length, map, get_or, arith, refl, inl, inr, ap, ◌∙◌, length-append}
use Rattle.std.specs.Prelude.{nat_le, nat_lt, not, max}
use Rattle.std.specs.List.{All, filter}
use Rattle.std.proofs.lemmas.List.Elements.{All-head, All-tail}
use Rattle.std.proofs.lemmas.Bool.Decides.{nat_tests}
use Rattle.svc_base.specs.Calendar.{month_of, first_day, last_day, day_after, IsDay}
use Rattle.svc_base.specs.DayLemmas.{month_length_most, month_length_least}
use Rattle.svc_base.proofs.CalendarLemmas.{after_first}
use Rattle.svc_types.specs.declared.terms.Terms.{Terms}
use Rattle.svc_types.specs.declared.books.Books.{Books}
use Rattle.svc_types.specs.declared.account.Entry.{Entry}
use Rattle.svc_types.specs.declared.account.Event.{Event}
use Rattle.svc_types.specs.Terms.{IsSound}
use Rattle.svc_types.proofs.OrderLemmas.{live_all}
use Rattle.svc_spec.specs.Installments.{due_month}
use Rattle.svc_spec.specs.Step.{step}
use Rattle.svc_spec.specs.Books.{start}
use Rattle.svc_spec.specs.Events.{month_marks, late_day, late_mark, late_marks_from, late_marks, up_to, event_of, entry_events, events_to, folded, books_at}
use Rattle.svc_spec.specs.Accounts.{Account, live_of, books_of, IsAccount}
use Rattle.svc_spec.specs.Months.{books_at_end, cost_of_month, counted}
use Rattle.svc_spec.proofs.SettlingLemmas.{from_nat_le, from_not_nat_le, nat_le-true}
use Rattle.svc_spec.proofs.EventLemmas.{start_next}
use Rattle.svc_spec.proofs.MonthLemmas.{boarded_some, day_by_end, before_boarded, past_month}
use Rattle.svc_spec.proofs.NextLemmas.{step_advances, books_last}
use Rattle.svc_spec.proofs.CostLemmas.{by_day_length, months_length, late_within, books_reach}
use Rattle.svc_spec.proofs.TimeLemmas.{past}
use Rattle.svc_spec.proofs.PastLemmas.{past_append, past_up_to, past_by_day, past_months, books_past, length_past}

-- ---- the open installment of a later day is not an earlier one

pub folded_rises : (t : Terms) (b : Books) (es : List Event) → b.next ≤ (folded t b es).next
folded_rises t b [] = omega arith
folded_rises t b (e ∷ es) = let all = step_advances t e b in let rises = all.low in omega (arith, folded_rises t (step t e b) es)

pub next_rises : (t : Terms) (live : List Entry) (d d' : ℕ) → d ≤ d' → (books_at t live d).next ≤ (books_at t live d').next
next_rises t live d d' le =
    let es = past d (events_to t live d') in
    let same = ap (λ (b : Books). b.next) (books_past t live d d' le) in
    omega (arith, same, folded_rises t (books_at t live d) es)

-- the open installment is the first or a later one
pub books_first : (t : Terms) (live : List Entry) (d : ℕ) → 1 ≤ (books_at t live d).next
unfolding books_at
books_first t live d = omega (arith, folded_rises t (start t) (events_to t live d), start_next t)

-- ---- the ends of months

pub ends_rise : (m n : ℕ) → last_day m ≤ last_day (m + n)
ends_rise m zero = let same : m + zero ≡ m = omega arith in rw same (omega arith)
ends_rise m (suc n) = omega (arith, month_length_most m)

ends_in_order : (m n : ℕ) → m ≤ n → last_day m ≤ last_day n
ends_in_order m n le = let same : m + (n - m) ≡ n = omega arith in let rises = ends_rise m (n - m) in let end : last_day (m + (n - m)) ≡ last_day n = ap last_day same in omega arith

-- a day that the calendar has is not past the end of its month
pub day_within : (d : ℕ) → IsDay d → d ≤ last_day (month_of d)
day_within d is = omega arith

-- a day past the end of a month is of a later one
pub month_after : (d m : ℕ) → IsDay d → last_day m < d → m < month_of d
month_after d m is past =
    elim (nat_lt m (month_of d)) as (λ v. nat_lt m (month_of d) ≡ v → m < month_of d) [
      | true ↦ λ e. grind (arith, nat_tests)
      | false ↦ λ e.
          let back : month_of d ≤ m = grind (arith, nat_tests) in
          let within = day_within d is in
          let ends = ends_in_order (month_of d) m back in
          absurd (omega arith)
    ] refl

-- ---- late marks past the end of a month

-- up to 29 days after the first day of a month are within the next one
late_soon : (q n : ℕ) → n ≤ 29 → day_after (first_day q) n ≤ last_day (q + 1)
late_soon q n few =
    let least = month_length_least q in
    let least' = month_length_least (q + 1) in
    let most = month_length_most q in
    elim (after_first q n few) as (λ either. day_after (first_day q) n ≤ last_day (q + 1)) [
      | inl h ↦ omega (arith, h.0, h.1)
      | inr h ↦ omega (arith, h.0, h.1)
    ]

-- the grace of an installment that was due two months before a day, or earlier, is over by it
pub late_by : (t : Terms) (k d : ℕ) → IsSound t → due_month t k + 2 ≤ month_of d → late_day t k ≤ d
late_by t k d s early =
    let grace = s.grace in
    let q = due_month t k in
    let soon : late_day t k ≤ last_day (q + 1) = late_soon q (t.grace + 1) (omega arith) in
    let most = month_length_most (q + 1) in
    omega arith

-- a late mark past the end of month p is of an installment that is due in p or later
due_since : (t : Terms) (k d p : ℕ) → IsSound t → last_day p ≤ d → d < late_day t k → p ≤ due_month t k
due_since t k d p s end past =
    let grace = s.grace in
    let q = due_month t k in
    let soon : late_day t k ≤ last_day (q + 1) = late_soon q (t.grace + 1) (omega arith) in
    elim (nat_le p q) as (λ v. nat_le p q ≡ v → p ≤ q) [
      | true ↦ λ e. from_nat_le p q e
      | false ↦ λ e.
          let below = from_not_nat_le p q e in
          let ends = ends_in_order (q + 1) p (omega arith) in
          absurd (omega arith)
    ] refl

lates_past : (t : Terms) (k n d d' p : ℕ) → IsSound t → 1 ≤ k → last_day p ≤ d → length (up_to d' (past d (late_marks_from t k n))) ≤ month_of d' + 1 - max (due_month t k) p
lates_past t k zero d d' p s low end = omega arith
lates_past t k (suc n) d d' p s low end =
    let rest = lates_past t (k + 1) n d d' p s (omega arith) end in
    let next : due_month t (k + 1) ≡ due_month t k + 1 = omega arith in
    let others = past d (late_marks_from t (k + 1) n) in
    elim (nat_le (late_day t k) d) as (λ v. nat_le (late_day t k) d ≡ v → length (up_to d' (cond (not v) (late_mark t k ∷ others) others)) ≤ month_of d' + 1 - max (due_month t k) p) [
      | true ↦ λ e. omega (arith, rest)
      | false ↦ λ e.
          let since = due_since t k d p s end (from_not_nat_le (late_day t k) d e) in
          elim (nat_le (late_day t k) d') as (λ w. nat_le (late_day t k) d' ≡ w → length (cond w (late_mark t k ∷ up_to d' others) (up_to d' others)) ≤ month_of d' + 1 - max (due_month t k) p) [
            | true ↦ λ f. let due = late_within t k d' (from_nat_le (late_day t k) d' f) in omega (arith, rest)
            | false ↦ λ f. omega (arith, rest)
          ] refl
    ] refl

-- ---- entries past a day

entries_past : (live : List Entry) (m d d' : ℕ) → All (λ e. d < e.day → m ≤ month_of e.day) live → length (up_to d' (past d (map event_of live))) ≤ length (filter (λ e. nat_le m (month_of e.day)) live)
entries_past [] m d d' h = omega arith
entries_past (x ∷ xs) m d d' h =
    let P : Entry → Type 0 = λ e. d < e.day → m ≤ month_of e.day in
    let rest = entries_past xs m d d' (All-tail P x xs h) in
    let more = past d (map event_of xs) in
    let kept = filter (λ (e : Entry). nat_le m (month_of e.day)) xs in
    let fewer : length kept ≤ length (cond (nat_le m (month_of x.day)) (x ∷ kept) kept) = elim (nat_le m (month_of x.day)) as (λ v. length kept ≤ length (cond v (x ∷ kept) kept)) [ true ↦ omega arith | false ↦ omega arith ] in
    elim (nat_le x.day d) as (λ v. nat_le x.day d ≡ v → length (up_to d' (cond (not v) (event_of x ∷ more) more)) ≤ length (cond (nat_le m (month_of x.day)) (x ∷ kept) kept)) [
      | true ↦ λ e. omega (arith, rest, fewer)
      | false ↦ λ e.
          let within : nat_le m (month_of x.day) ≡ true = nat_le-true m (month_of x.day) (All-head P x xs h (from_not_nat_le x.day d e)) in
          rw within (elim (nat_le x.day d') as (λ w. length (cond w (event_of x ∷ up_to d' more) (up_to d' more)) ≤ suc (length kept)) [ true ↦ omega (arith, rest) | false ↦ omega (arith, rest) ])
    ] refl

-- ---- all events past a day

past_length : (t : Terms) (live : List Entry) (d d' : ℕ) → length (past d (events_to t live d')) ≡ length (past d (month_marks t d')) + length (up_to d' (past d (late_marks_from t 1 t.term))) + length (up_to d' (past d (map event_of live)))
unfolding events_to
past_length t live d d' =
    let months = month_marks t d' in
    let lates = late_marks t d' in
    let entries = entry_events live d' in
    let parts = past_append d (months ++ lates) entries ∙ ap (λ xs. xs ++ past d entries) (past_append d months lates) in
    let late = ap length (past_up_to d d' (late_marks_from t 1 t.term)) in
    let entry = ap length (past_up_to d d' (map event_of live)) in
    let all = ap length (past_by_day d (months ++ lates ++ entries)) in
    omega (arith, all, by_day_length (past d (months ++ lates ++ entries)), ap length parts, length-append (past d months ++ past d lates) (past d entries), length-append (past d months) (past d lates), late, entry)

months_past : (t : Terms) (d d' : ℕ) → month_of t.boarded ≤ month_of d → month_of d ≤ month_of d' → length (past d (month_marks t d')) ≡ month_of d' - month_of d
months_past t d d' low le =
    let b = month_of t.boarded in
    let n = b + 1 + (month_of d' - b) - (month_of d + 1) in
    omega (arith, ap length (past_months d (b + 1) (month_of d' - b) (omega arith)), months_length (month_of d + 1) n)

-- ---- the cost of a month

-- an entry past the end of the month before is of the month or a later one
live_since : (a : Account) (d m : ℕ) → IsAccount a → 1 ≤ m → last_day (m - 1) ≤ d → All (λ e. d < e.day → m ≤ month_of e.day) (live_of a)
live_since a d m h low end =
    live_all (λ e. d < e.day → m ≤ month_of e.day) a.entries a.reversals (λ k x lt past.
    let later = month_after (get_or a.entries k x).day (m - 1) (h.exist k x lt) (omega arith) in
    omega arith)

-- from the end of the month before, or later, a fold up to a day counts at most the cost of the month
pub fold_within : (a : Account) (d d' m : ℕ) → IsAccount a → 1 ≤ m → a.terms.boarded ≤ d → d ≤ d' → d' ≤ a.today → last_day (m - 1) ≤ d → 1 ≤ (books_at_end a (m - 1)).next → (books_at_end a (m - 1)).next ≤ (books_of a d).next → counted a.terms (live_of a) d' ≤ counted a.terms (live_of a) d + cost_of_month a m
unfolding cost_of_month
fold_within a d d' m h low since le until end some rises =
    let t = a.terms in
    let live = live_of a in
    let term = books_last a d' h in
    let reach = books_reach t live d' (omega arith) in
    let split = length_past t live d d' le in
    let parts = past_length t live d d' in
    let months = months_past t d d' (omega arith) (omega arith) in
    let lates = lates_past t 1 t.term d d' (m - 1) h.terms (omega arith) end in
    let entries = entries_past live m d d' (live_since a d m h low end) in
    let first = h.terms.first_low in
    let least = month_length_least (m - 1) in
    omega (arith, split, parts, months, lates, entries, reach, term, some, rises)

-- from the end of the month before it
pub counted_from_end : (a : Account) (m d : ℕ) → IsAccount a → month_of a.terms.boarded < m → last_day (m - 1) ≤ d → d ≤ a.today → counted a.terms (live_of a) d ≤ counted a.terms (live_of a) (last_day (m - 1)) + cost_of_month a m
counted_from_end a m d h later end until =
    let e = last_day (m - 1) in
    let same = ap (λ (b : Books). b.next) (past_month a (m - 1) e (omega arith) refl (omega arith)) in
    let since = day_by_end a.terms.boarded (m - 1) h.boarded (omega arith) in
    let some = books_first a.terms (live_of a) e in
    fold_within a e d m h (omega arith) since end until (omega arith) (omega (arith, same, some)) (omega (arith, same))

-- the books at the end of the month before have no later open installment
end_before : (a : Account) (d m : ℕ) → IsAccount a → m ≡ month_of d → a.terms.boarded ≤ d → d ≤ a.today → (1 ≤ (books_at_end a (m - 1)).next) × ((books_at_end a (m - 1)).next ≤ (books_of a d).next)
end_before a d m h is since until =
    let some = boarded_some a.terms.boarded h.boarded in
    let here = books_first a.terms (live_of a) d in
    elim (nat_lt (m - 1) (month_of a.terms.boarded)) as (λ v. nat_lt (m - 1) (month_of a.terms.boarded) ≡ v → (1 ≤ (books_at_end a (m - 1)).next) × ((books_at_end a (m - 1)).next ≤ (books_of a d).next)) [
      | true ↦ λ e.
          let early : m - 1 < month_of a.terms.boarded = grind (arith, nat_tests) in
          let first : (books_at_end a (m - 1)).next ≡ 1 = ap (λ (b : Books). b.next) (before_boarded a (m - 1) early) ∙ start_next a.terms in
          (omega arith, omega arith)
      | false ↦ λ e.
          let late : month_of a.terms.boarded ≤ m - 1 = grind (arith, nat_tests) in
          let x = last_day (m - 1) in
          let most = month_length_most (m - 1) in
          let before : x ≤ d = omega arith in
          let same = ap (λ (b : Books). b.next) (past_month a (m - 1) x late refl (omega arith)) in
          let low = books_first a.terms (live_of a) x in
          let rises = next_rises a.terms (live_of a) x d before in
          (omega (arith, same, low), omega (arith, same, rises))
    ] refl

-- from an earlier business day a fold is within the cost of that day's month
pub counted_on : (a : Account) (d d' : ℕ) → IsAccount a → a.terms.boarded ≤ d → d ≤ d' → d' ≤ a.today → counted a.terms (live_of a) d' ≤ counted a.terms (live_of a) d + cost_of_month a (month_of d)
counted_on a d d' h since le until =
    let m = month_of d in
    let some = boarded_some a.terms.boarded h.boarded in
    let most = month_length_most (m - 1) in
    let ends = end_before a d m h refl since (omega arith) in
    fold_within a d d' m h (omega arith) since le until (omega arith) ends.0 ends.1
