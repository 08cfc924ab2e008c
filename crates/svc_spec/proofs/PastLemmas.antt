-- The events past a day: which they are, and that the books of a later day are those of an earlier
-- one, folded on over them.
use Rattle.std.proofs.Common.{◌≡◌, ℕ, zero, suc, ◌+◌, ◌-◌, ◌≤◌, ◌<◌, true, false, cond, List, [], ◌∷◌, ◌++◌, length, map, drop, take, arith, refl, sym, ap, subst, ◌∙◌, length-append}
use Rattle.std.specs.Prelude.{nat_le, not, if◌then◌else◌}
use Rattle.std.specs.List.{All}
use Rattle.std.proofs.lemmas.List.Elements.{All-cons, All-head, All-tail}
use Rattle.svc_base.specs.Calendar.{month_of, first_day}
use Rattle.svc_types.specs.declared.terms.Terms.{Terms}
use Rattle.svc_types.specs.declared.books.Books.{Books}
use Rattle.svc_types.specs.declared.account.Entry.{Entry}
use Rattle.svc_types.specs.declared.account.Event.{Event}
use Rattle.svc_types.specs.Terms.{IsSound}
use Rattle.svc_spec.specs.Books.{start}
use Rattle.svc_spec.specs.Entries.{AreEntries}
use Rattle.svc_spec.specs.Events.{month_mark, month_marks_from, month_marks, late_day, late_mark, late_marks_from, late_marks, up_to, event_of, entry_events, insert_event, by_day, events_to, folded, books_at}
use Rattle.svc_spec.proofs.SettlingLemmas.{nat_le-true, nat_le-false, from_nat_le, from_not_nat_le}
use Rattle.svc_spec.proofs.WholeStep.{books_on}
use Rattle.svc_spec.proofs.LimitLemmas.{AreBounded}
use Rattle.svc_spec.proofs.EventLemmas.{AreInTurn, by_day_turn, months_since, lates_since, late_day_rises, CanFold, can_fold_events}
use Rattle.svc_spec.proofs.TimeLemmas.{past, past_all, inserted_if, events_go_on, folded_on}
use Rattle.svc_spec.proofs.DayLemmas.{on, folded_from}

-- ---- events past a day

pub past_append : (d : ℕ) (xs ys : List Event) → past d (xs ++ ys) ≡ past d xs ++ past d ys
past_append d [] ys = refl
past_append d (x ∷ xs) ys =
    elim (nat_le x.day d) as (λ v. cond (not v) (x ∷ past d (xs ++ ys)) (past d (xs ++ ys)) ≡ cond (not v) (x ∷ past d xs) (past d xs) ++ past d ys) [
      | true ↦ past_append d xs ys
      | false ↦ ap (λ zs. x ∷ zs) (past_append d xs ys)
    ]

-- past one day and up to another, in either order
pub past_up_to : (d d' : ℕ) (xs : List Event) → past d (up_to d' xs) ≡ up_to d' (past d xs)
past_up_to d d' [] = refl
past_up_to d d' (x ∷ xs) =
    let rest = past_up_to d d' xs in
    elim (nat_le x.day d) as (λ v. nat_le x.day d ≡ v → past d (cond (nat_le x.day d') (x ∷ up_to d' xs) (up_to d' xs)) ≡ up_to d' (cond (not v) (x ∷ past d xs) (past d xs))) [
      | true ↦ λ e. elim (nat_le x.day d') as (λ w. past d (cond w (x ∷ up_to d' xs) (up_to d' xs)) ≡ up_to d' (past d xs)) [ true ↦ rw e rest | false ↦ rest ]
      | false ↦ λ e. elim (nat_le x.day d') as (λ w. past d (cond w (x ∷ up_to d' xs) (up_to d' xs)) ≡ cond w (x ∷ up_to d' (past d xs)) (up_to d' (past d xs))) [ true ↦ rw e (ap (λ ys. x ∷ ys) rest) | false ↦ rest ]
    ] refl

past_insert : (d : ℕ) (e : Event) (xs : List Event) → past d (insert_event e xs) ≡ inserted_if (not (nat_le e.day d)) e (past d xs)
past_insert d e [] = elim (nat_le e.day d) as (λ v. cond (not v) (e ∷ []) [] ≡ inserted_if (not v) e []) [ true ↦ refl | false ↦ refl ]
past_insert d e (x ∷ xs) =
    elim (nat_le e.day x.day) as (λ v. nat_le e.day x.day ≡ v → past d (if v then e ∷ x ∷ xs else x ∷ insert_event e xs) ≡ inserted_if (not (nat_le e.day d)) e (past d (x ∷ xs))) [
      | true ↦ λ le.
          elim (nat_le e.day d) as (λ v. nat_le e.day d ≡ v → cond (not v) (e ∷ past d (x ∷ xs)) (past d (x ∷ xs)) ≡ inserted_if (not v) e (past d (x ∷ xs))) [
            | true ↦ λ early. refl
            | false ↦ λ late.
                let first = from_nat_le e.day x.day le in
                let after = from_not_nat_le e.day d late in
                let off : nat_le x.day d ≡ false = nat_le-false x.day d (omega arith) in
                rw (off, le)
          ] refl
      | false ↦ λ gt.
          let same = past_insert d e xs in
          elim (nat_le x.day d) as (λ v. cond (not v) (x ∷ past d (insert_event e xs)) (past d (insert_event e xs)) ≡ inserted_if (not (nat_le e.day d)) e (cond (not v) (x ∷ past d xs) (past d xs))) [
            | true ↦ same
            | false ↦ ap (λ ys. x ∷ ys) same ∙ (elim (nat_le e.day d) as (λ w. x ∷ inserted_if (not w) e (past d xs) ≡ inserted_if (not w) e (x ∷ past d xs)) [ true ↦ refl | false ↦ rw gt ])
          ]
    ] refl

-- past a day and by day, in either order
pub past_by_day : (d : ℕ) (xs : List Event) → past d (by_day xs) ≡ by_day (past d xs)
past_by_day d [] = refl
past_by_day d (x ∷ xs) =
    past_insert d x (by_day xs)
    ∙ ap (inserted_if (not (nat_le x.day d)) x) (past_by_day d xs)
    ∙ (elim (nat_le x.day d) as (λ v. inserted_if (not v) x (by_day (past d xs)) ≡ by_day (cond (not v) (x ∷ past d xs) (past d xs))) [ true ↦ refl | false ↦ refl ])

all_past : (d : ℕ) (xs : List Event) → All (λ x. d < x.day) (past d xs)
all_past d [] = λ k x lt. absurd (omega arith)
all_past d (x ∷ xs) =
    elim (nat_le x.day d) as (λ v. nat_le x.day d ≡ v → All (λ y. d < y.day) (cond (not v) (x ∷ past d xs) (past d xs))) [
      | true ↦ λ e. all_past d xs
      | false ↦ λ e. All-cons (λ y. d < y.day) x (past d xs) (from_not_nat_le x.day d e) (all_past d xs)
    ] refl

-- ---- which they are

pub past_months : (d m n : ℕ) → m ≤ month_of d + 1 → past d (month_marks_from m n) ≡ month_marks_from (month_of d + 1) (m + n - (month_of d + 1))
past_months d m zero le = let none : m + zero - (month_of d + 1) ≡ zero = omega arith in rw none
past_months d m (suc n) le =
    elim (nat_le (first_day m) d) as (λ v. nat_le (first_day m) d ≡ v → cond (not v) (month_mark m ∷ past d (month_marks_from (m + 1) n)) (past d (month_marks_from (m + 1) n)) ≡ month_marks_from (month_of d + 1) (m + suc n - (month_of d + 1))) [
      | true ↦ λ e.
          let early = from_nat_le (first_day m) d e in
          let count : m + 1 + n - (month_of d + 1) ≡ m + suc n - (month_of d + 1) = omega arith in
          past_months d (m + 1) n (omega arith) ∙ ap (month_marks_from (month_of d + 1)) count
      | false ↦ λ e.
          let late = from_not_nat_le (first_day m) d e in
          let next : month_of d + 1 ≡ m = omega arith in
          let count : m + suc n - (month_of d + 1) ≡ suc n = omega arith in
          let all = past_all d (month_marks_from (m + 1) n) (months_since (m + 1) n (suc d) (omega arith)) in
          rw (count, next, all)
    ] refl

-- the grace of a later installment ends no earlier
pub late_days_rise : (t : Terms) (j n : ℕ) → IsSound t → 1 ≤ j → late_day t j ≤ late_day t (j + n)
late_days_rise t j zero s low = let same : j + zero ≡ j = omega arith in rw same (omega arith)
late_days_rise t j (suc n) s low =
    let same : j + suc n ≡ j + n + 1 = omega arith in
    let rest = late_days_rise t j n s low in
    let last = late_day_rises t (j + n) s (omega arith) in
    rw same (omega arith)

late_by_place : (t : Terms) (j k d : ℕ) → IsSound t → 1 ≤ j → j ≤ k → late_day t k ≤ d → late_day t j ≤ d
late_by_place t j k d s low le by =
    let same : j + (k - j) ≡ k = omega arith in
    let rises = late_days_rise t j (k - j) s low in
    let last : late_day t (j + (k - j)) ≤ d = rw same by in
    omega arith

-- where the graces of the first k installments are over by a day, and no other one is
pub past_lates : (t : Terms) (d k j n : ℕ) → IsSound t → 1 ≤ j → j ≤ k + 1 → j + n ≡ t.term + 1 → k ≤ t.term → (1 ≤ k → late_day t k ≤ d) → (k < t.term → d < late_day t (k + 1)) → past d (late_marks_from t j n) ≡ late_marks_from t (k + 1) (t.term - k)
past_lates t d k j zero s low le all few by after =
    let none : t.term - k ≡ zero = omega arith in rw none
past_lates t d k j (suc n) s low le all few by after =
    elim (nat_le j k) as (λ v. nat_le j k ≡ v → past d (late_mark t j ∷ late_marks_from t (j + 1) n) ≡ late_marks_from t (k + 1) (t.term - k)) [
      | true ↦ λ e.
          let within = from_nat_le j k e in
          let early : nat_le (late_day t j) d ≡ true = nat_le-true (late_day t j) d (late_by_place t j k d s low within (by (omega arith))) in
          rw early (past_lates t d k (j + 1) n s (omega arith) (omega arith) (omega arith) few by after)
      | false ↦ λ e.
          let later = from_not_nat_le j k e in
          let here : j ≡ k + 1 = omega arith in
          let count : t.term - k ≡ suc n = omega arith in
          let first : d < late_day t (k + 1) = after (omega arith) in
          rw (here, count) (past_all d (late_marks_from t (k + 1) (suc n)) (lates_since t (k + 1) (suc n) (suc d) s (omega arith) first))
    ] refl

-- where the first i entries are by a day, and no other one is
pub past_entries : (live : List Entry) (i d : ℕ) → All (λ e. e.day ≤ d) (take i live) → All (λ e. d < e.day) (drop i live) → past d (map event_of live) ≡ map event_of (drop i live)
past_entries [] zero d taken left = refl
past_entries [] (suc i) d taken left = refl
past_entries (x ∷ xs) zero d taken left =
    let after = All-head (λ e. d < e.day) x xs left in
    let rest = past_entries xs zero d (λ k y lt. absurd (omega arith)) (All-tail (λ e. d < e.day) x xs left) in
    rw (nat_le-false x.day d after) (ap (λ ys. event_of x ∷ ys) rest)
past_entries (x ∷ xs) (suc i) d taken left =
    let by = All-head (λ e. e.day ≤ d) x (take i xs) taken in
    rw (nat_le-true x.day d by) (past_entries xs i d (All-tail (λ e. e.day ≤ d) x (take i xs) taken) left)

-- ---- the books of a later day

pub books_past : (t : Terms) (live : List Entry) (d d' : ℕ) → d ≤ d' → books_at t live d' ≡ on d' (folded t (books_at t live d) (past d (events_to t live d')))
unfolding books_at
books_past t live d d' le =
    let first = events_to t live d in
    let rest = past d (events_to t live d') in
    ap (λ es. on d' (folded t (start t) es)) (events_go_on t live d d' le)
    ∙ ap (on d') (folded_on t (start t) first rest)
    ∙ sym (folded_from t (folded t (start t) first) rest d' d)

bounded_on : (n d : ℕ) (b : Books) → AreBounded n b → AreBounded n (on d b)
bounded_on n d b h = record { backed = record { escrow = h.backed.escrow; fee = h.backed.fee; curtailed = h.backed.curtailed; late_owed = h.backed.late_owed }; total = h.total }

can_fold_on : (t : Terms) (b : Books) (es : List Event) (d : ℕ) → AreInTurn d es → CanFold t b es → CanFold t (on d b) es
can_fold_on t b es d turn h = record {
  books = books_on t d b h.books;
  turn = turn;
  whats = h.whats;
  room = h.room;
  bounded = bounded_on _ d b h.bounded;
}

past_turn : (t : Terms) (live : List Entry) (d d' : ℕ) → AreInTurn d (past d (events_to t live d'))
unfolding events_to
past_turn t live d d' =
    let all = month_marks t d' ++ late_marks t d' ++ entry_events live d' in
    let after : All (λ x. d ≤ x.day) (past d all) = λ k x lt. let more = all_past d all k x lt in omega arith in
    subst (AreInTurn d) (sym (past_by_day d all)) (by_day_turn d (past d all) after)

-- the books of a day take the events past it
pub can_fold_past : (t : Terms) (live : List Entry) (d d' : ℕ) → IsSound t → AreEntries t live → length live ≤ 4_096 → d ≤ d' → CanFold t (books_at t live d) (past d (events_to t live d'))
unfolding books_at
can_fold_past t live d d' s h few le =
    let first = events_to t live d in
    let rest = past d (events_to t live d') in
    can_fold_on t (folded t (start t) first) rest d (past_turn t live d d') (can_fold_events t live d' first rest s h few (events_go_on t live d d' le))

pub length_past : (t : Terms) (live : List Entry) (d d' : ℕ) → d ≤ d' → length (events_to t live d') ≡ length (events_to t live d) + length (past d (events_to t live d'))
length_past t live d d' le = ap length (events_go_on t live d d' le) ∙ length-append (events_to t live d) (past d (events_to t live d'))
