-- Within a month no money of a loan moves by itself: suspense has paid what it covers, and a grace that is over adds a late
-- charge alone.
use Rattle.std.proofs.Common.{◌≡◌, ℕ, zero, suc, ◌+◌, ◌-◌, ◌≤◌, ◌<◌, Bool, true, false, List, [], ◌∷◌, ◌++◌, map, arith, refl, sym, ap, subst, ◌∙◌}
use Rattle.std.specs.Prelude.{pos, ◌+ℤ◌, ◌&&◌, not, nat_le, nat_lt, int_lt, int_le, is_some, is_none, Option, Some, None, if◌then◌else◌}
use Rattle.std.specs.Int.{int_min}
use Rattle.std.specs.List.{All}
use Rattle.std.proofs.lemmas.Int.{ints, clamps}
use Rattle.std.proofs.lemmas.Bool.Decides.{nat_tests}
use Rattle.std.proofs.lemmas.List.Elements.{All-cons, All-head, All-tail, All-map, All-filter, filter_passes}
use Rattle.svc_base.specs.Calendar.{month_of, first_day}
use Rattle.svc_base.specs.Money.{share_bp}
use Rattle.svc_base.proofs.CalendarLemmas.{day_after_least}
use Rattle.svc_types.specs.declared.terms.Terms.{Terms}
use Rattle.svc_types.specs.declared.books.Books.{Books}
use Rattle.svc_types.specs.declared.account.Entry.{Entry}
use Rattle.svc_types.specs.declared.account.Event.{Event}
use Rattle.svc_types.specs.declared.account.What.TheVariants as what
use Rattle.svc_types.specs.Terms.{IsSound}
use Rattle.svc_types.proofs.OrderLemmas.{live_all}
use Rattle.svc_spec.specs.Installments.{due_month, due_day}
use Rattle.svc_spec.specs.Settling.{can_move, is_movable, moves, moved_one, moved, is_overdue, late_paid, late_taken, marked, settled_by, settled}
use Rattle.svc_spec.specs.Step.{charged, happened, step}
use Rattle.svc_spec.specs.Books.{HaveSigns, AreBooks, IsWhat, start}
use Rattle.svc_spec.specs.Events.{month_mark, month_marks_from, month_marks, late_day, late_mark, late_marks_from, late_marks, up_to, event_of, entry_events, insert_event, by_day, events_to, folded, books_at}
use Rattle.svc_spec.specs.Accounts.{Account, IsAccount, live_of, books_of}
use Rattle.svc_spec.proofs.InstallmentLemmas.{IsBalance}
use Rattle.svc_spec.proofs.SettlingLemmas.{from_nat_le, nat_le-true, both, moves_more, moves_none, moved-none, is_movable-true, is_movable-short, due_by_month}
use Rattle.svc_spec.proofs.StepLemmas.{can_pay, moved_one_signs, moved_keeps}
use Rattle.svc_spec.proofs.ActLemmas.{happened_signs}
use Rattle.svc_spec.proofs.WholeStep.{happened_marked_signs, start_books}
use Rattle.svc_spec.proofs.BooksLemmas.{same_books}
use Rattle.svc_spec.proofs.DayLemmas.{on}
use Rattle.svc_spec.proofs.EventLemmas.{AreInTurn, CanFold, can_fold_step, events_all}
use Rattle.svc_spec.proofs.TimeLemmas.{past, events_up_to}
use Rattle.svc_spec.proofs.PastLemmas.{past_append, past_by_day, past_months, books_past, can_fold_past}
use Rattle.svc_spec.proofs.AccountLemmas.{live_entries_fold, account_few, account_folds}
use Rattle.svc_apply.proofs.WholeLemmas.{whole_some}

-- ---- books from which nothing more is paid

-- whether an open installment is due by a month
abbrev is_due : Terms → ℕ → Books → Bool
is_due t m b = int_lt (pos 0) b.upb && nat_le (due_month t b.next) m

overdue_in : (t : Terms) (d : ℕ) (b : Books) → is_overdue t d b ≡ is_due t (month_of d) b
overdue_in t d b = ap (λ v. int_lt (pos 0) b.upb && v) (due_by_month t b.next d)

-- in a month suspense covers no installment that is due by the next one, and pays no late charge
record IsStill (t : Terms) (m : ℕ) (b : Books) : Type 0 where
  installments : is_movable t (m + 1) b ≡ false
  late : is_due t m b ≡ false → int_min b.suspense b.late_owed ≡ pos 0

-- after the installments that suspense covers none is left that it covers
none_left : (t : Terms) (by n : ℕ) (b : Books) → IsSound t → moves t by b ≡ n → HaveSigns t b → is_movable t by (moved t n b) ≡ false
unfolding moved
none_left t by zero b s e h =
    elim (is_movable t by b) as (λ v. is_movable t by b ≡ v → v ≡ false) [
      | true ↦ λ m. let more = moves_more t by b (h.next_low (can_pay t by b m).owed) m in absurd (omega (arith, e, more))
      | false ↦ λ m. refl
    ] refl
none_left t by (suc n) b s e h =
    elim (is_movable t by b) as (λ v. is_movable t by b ≡ v → is_movable t by (moved t n (moved_one t b)) ≡ false) [
      | true ↦ λ m.
          let c = can_pay t by b m in
          let more = moves_more t by b (h.next_low c.owed) m in
          none_left t by n (moved_one t b) s (omega (arith, e, more)) (moved_one_signs t b s h c)
      | false ↦ λ m. let none = moves_none t by b s h m in absurd (omega (arith, e, none))
    ] refl

-- nor once late charges are paid from it
none_after_late : (t : Terms) (by : ℕ) (b : Books) → HaveSigns t b → is_movable t by b ≡ false → is_movable t by (late_paid b) ≡ false
none_after_late t by b h e =
    elim (is_movable t by (late_paid b)) as (λ v. is_movable t by (late_paid b) ≡ v → v ≡ false) [
      | true ↦ λ m.
          let c = can_pay t by (late_paid b) m in
          let due = from_nat_le (due_month t b.next) by (both (nat_le (due_month t b.next) by) (can_move t (late_paid b) 1) m).0 in
          let covered = c.covered in
          let low = h.suspense in
          let owed = h.late_owed in
          let yes = is_movable-true t by b due c.owed (omega (arith, ints, clamps, covered, low, owed)) in
          absurd (let no : is_movable t by b ≡ false = e in cc)
      | false ↦ λ m. refl
    ] refl

late_leaves_none : (t : Terms) (by d : ℕ) (b : Books) → HaveSigns t b → is_movable t by b ≡ false → is_movable t by (late_taken t d b) ≡ false
unfolding late_taken
late_leaves_none t by d b h e =
    elim (is_overdue t d b) as (λ v. is_movable t by (if v then b else late_paid b) ≡ false) [ true ↦ e | false ↦ none_after_late t by b h e ]

-- where no installment is overdue, suspense or what is owed is used up
late_is_paid : (t : Terms) (d : ℕ) (b : Books) → HaveSigns t b → is_due t (month_of d) (late_taken t d b) ≡ false → int_min (late_taken t d b).suspense (late_taken t d b).late_owed ≡ pos 0
unfolding late_taken
late_is_paid t d b h e =
    elim (is_overdue t d b) as (λ v. is_overdue t d b ≡ v → (let x : Books = if v then b else late_paid b in is_due t (month_of d) x ≡ false → int_min x.suspense x.late_owed ≡ pos 0)) [
      | true ↦ λ over no. absurd (let is = sym (overdue_in t d b) ∙ over in let not : is_due t (month_of d) b ≡ false = no in cc)
      | false ↦ λ over no. (let low = h.suspense in let owed = h.late_owed in omega (arith, ints, clamps, low, owed))
    ] refl e

marked_still : (t : Terms) (m d : ℕ) (b : Books) → IsStill t m b → IsStill t m (marked d b)
unfolding marked
marked_still t m d b h =
    elim (int_le b.upb (pos 0) && is_none b.satisfied) as (λ v. IsStill t m (if v then record b { satisfied = Some d } else b)) [
      | true ↦ record { installments = h.installments; late = h.late }
      | false ↦ h
    ]

-- so after an event nothing more is paid in its month
step_still : (t : Terms) (e : Event) (b : Books) → IsSound t → IsWhat e.what → HaveSigns t b → IsStill t (month_of e.day) (step t e b)
unfolding step settled_by
step_still t e b s a h =
    let by = month_of e.day + 1 in
    let x = marked e.day (happened t e.day e.what b) in
    let hx = happened_marked_signs t e.day e.what b s a h in
    let y = moved t (moves t by x) x in
    let hy = (moved_keeps t by (λ z. Unit {0}) s (λ z hz c u. tt) (moves t by x) x refl hx tt).0 in
    let z = late_taken t e.day y in
    let last : IsStill t (month_of e.day) z = record { installments = late_leaves_none t by e.day y hy (none_left t by (moves t by x) x s refl hx); late = late_is_paid t e.day y hy } in
    let done = marked_still t (month_of e.day) e.day z last in
    record { installments = done.installments; late = done.late }

-- at boarding there is nothing to pay from
start_still : (t : Terms) (m : ℕ) → IsSound t → IsStill t m (start t)
unfolding start
start_still t m s =
    let b = start t in
    let h = (start_books t s).signs in
    let owed = s.principal_low in
    let balance : IsBalance t b.upb = record { low = h.upb_low; high = h.upb_high } in
    let some = whole_some t b.plan b.earlier b.upb b.next s h.plan h.earlier balance (omega (arith, ints, owed)) in
    record { installments = is_movable-short t (m + 1) b some; late = λ no. omega (arith, ints, clamps) }

-- ---- the end of a grace in such a month

-- books that differ in their day and in the late charges that are owed alone
pub record SameMoney (b c : Books) : Type 0 where
  pub is : c ≡ record b { day = c.day; late_owed = c.late_owed }

no_money : (b : Books) → SameMoney b b
no_money b = record { is = same_books b (record b { day = b.day; late_owed = b.late_owed }) refl refl refl refl refl refl refl refl refl refl refl refl refl refl }

money_on : (a b c : Books) → SameMoney a b → SameMoney b c → SameMoney a c
money_on a b c p q = record { is = q.is ∙ ap (λ (x : Books). record x { day = c.day; late_owed = c.late_owed }) p.is }

not_both : (o : Option ℕ) → (is_some o && is_none o) ≡ false
not_both None = refl
not_both (Some x) = refl

marked_none : (d : ℕ) (b : Books) → is_some b.satisfied ≡ int_le b.upb (pos 0) → marked d b ≡ b
unfolding marked
marked_none d b h =
    let test : (int_le b.upb (pos 0) && is_none b.satisfied) ≡ false = ap (λ v. v && is_none b.satisfied) (sym h) ∙ not_both b.satisfied in
    ap (λ v. if v then record b { satisfied = Some d } else b) test

nothing_paid : (b : Books) → int_min b.suspense b.late_owed ≡ pos 0 → late_paid b ≡ b
nothing_paid b e = same_books (late_paid b) b refl refl refl refl (omega (arith, ints, e)) (omega (arith, ints, e)) refl refl refl refl (omega (arith, ints, e)) refl refl refl

late_taken_none : (t : Terms) (x : ℕ) (b : Books) → IsStill t (month_of x) b → late_taken t x b ≡ b
unfolding late_taken
late_taken_none t x b h =
    elim (is_overdue t x b) as (λ v. is_overdue t x b ≡ v → (if v then b else late_paid b) ≡ b) [
      | true ↦ λ e. refl
      | false ↦ λ e. nothing_paid b (h.late (sym (overdue_in t x b) ∙ e))
    ] refl

settled_none : (t : Terms) (x : ℕ) (b : Books) → IsSound t → HaveSigns t b → is_some b.satisfied ≡ int_le b.upb (pos 0) → IsStill t (month_of x) b → settled t x (marked x b) ≡ b
unfolding settled_by
settled_none t x b s h paid still =
    let by = month_of x + 1 in
    let same = marked_none x b paid in
    ap (settled t x) same
    ∙ ap (λ y. marked x (late_taken t x y)) (moved-none t by b s h still.installments)
    ∙ ap (marked x) (late_taken_none t x b still)
    ∙ same

-- a late charge is owed by an overdue loan, from which none is taken
charged_still : (t : Terms) (k m : ℕ) (b : Books) → due_month t k ≤ m → IsStill t m b → IsStill t m (charged t k b)
unfolding charged
charged_still t k m b by h =
    elim (int_lt (pos 0) b.upb && nat_le b.next k) as (λ v. (int_lt (pos 0) b.upb && nat_le b.next k) ≡ v → IsStill t m (if v then record b { late_owed = b.late_owed +ℤ share_bp t.pi t.late } else b)) [
      | true ↦ λ e.
          let parts = both (int_lt (pos 0) b.upb) (nat_le b.next k) e in
          let first = from_nat_le b.next k parts.1 in
          let due : nat_le (due_month t b.next) m ≡ true = nat_le-true (due_month t b.next) m (omega (arith, first, by)) in
          let is : is_due t m b ≡ true = rw (parts.0, due) refl in
          record { installments = h.installments; late = λ no. absurd (let not : is_due t m b ≡ false = no in cc) }
      | false ↦ λ e. h
    ] refl

charged_money : (t : Terms) (k : ℕ) (b : Books) → charged t k b ≡ record b { late_owed = (charged t k b).late_owed }
unfolding charged
charged_money t k b =
    elim (int_lt (pos 0) b.upb && nat_le b.next k) as (λ v. (let x : Books = if v then record b { late_owed = b.late_owed +ℤ share_bp t.pi t.late } else b in x ≡ record b { late_owed = x.late_owed })) [
      | true ↦ refl
      | false ↦ same_books b (record b { late_owed = b.late_owed }) refl refl refl refl refl refl refl refl refl refl refl refl refl refl
    ]

charged_paid : (t : Terms) (k : ℕ) (b : Books) → is_some b.satisfied ≡ int_le b.upb (pos 0) → is_some (charged t k b).satisfied ≡ int_le (charged t k b).upb (pos 0)
unfolding charged
charged_paid t k b h =
    elim (int_lt (pos 0) b.upb && nat_le b.next k) as (λ v. (let x : Books = if v then record b { late_owed = b.late_owed +ℤ share_bp t.pi t.late } else b in is_some x.satisfied ≡ int_le x.upb (pos 0))) [ true ↦ h | false ↦ h ]

late_money : (t : Terms) (k : ℕ) (b : Books) → IsSound t → AreBooks t b → IsStill t (month_of (late_day t k)) b → SameMoney b (step t (late_mark t k) b)
unfolding step
late_money t k b s h still =
    let x = late_day t k in
    let c = charged t k b in
    let least = day_after_least (due_day t k) (t.grace + 1) in
    let quiet = charged_still t k (month_of x) b (omega (arith, least)) still in
    let signs = happened_signs t x (what.LateMark k) b s tt h.signs in
    let none : settled t x (marked x c) ≡ c = settled_none t x c s signs (charged_paid t k b h.satisfied) quiet in
    record { is = ap (on x) (none ∙ charged_money t k b) ∙ ap (λ (y : Books). record b { day = x; late_owed = y.late_owed }) (sym none) }

-- ---- the late marks of a month

-- an event is a late mark
record IsLate (t : Terms) (e : Event) : Type 0 where
  k : ℕ
  is : e ≡ late_mark t k

lates_money : (t : Terms) (m : ℕ) (b : Books) (es : List Event) → IsSound t → CanFold t b es → IsStill t m b → All (IsLate t) es → All (λ (e : Event). month_of e.day ≡ m) es → SameMoney b (folded t b es)
lates_money t m b [] s h still lates within = no_money b
lates_money t m b (e ∷ es) s h still lates within =
    let late = All-head (IsLate t) e es lates in
    let month = All-head (λ (x : Event). month_of x.day ≡ m) e es within in
    let whats = All-head (λ (x : Event). IsWhat x.what) e es h.whats in
    let its : month_of (late_day t late.k) ≡ m = ap (λ (x : Event). month_of x.day) (sym late.is) ∙ month in
    let one : SameMoney b (step t e b) = subst (λ (x : Event). SameMoney b (step t x b)) (sym late.is) (late_money t late.k b s h.books (subst (λ p. IsStill t p b) (sym its) still)) in
    let next : IsStill t m (step t e b) = subst (λ p. IsStill t p (step t e b)) month (step_still t e b s whats h.books.signs) in
    money_on b (step t e b) (folded t (step t e b) es) one (lates_money t m (step t e b) es s (can_fold_step t b e es s h) next (All-tail (IsLate t) e es lates) (All-tail (λ (x : Event). month_of x.day ≡ m) e es within))

months_by : (m n last : ℕ) → m + n ≤ last + 1 → All (λ (e : Event). e.day ≤ first_day last) (month_marks_from m n)
months_by m zero last le = λ k d lt. absurd (omega arith)
months_by m (suc n) last le = All-cons (λ (e : Event). e.day ≤ first_day last) (month_mark m) (month_marks_from (m + 1) n) (omega (arith, le)) (months_by (m + 1) n last (omega (arith, le)))

lates_are : (t : Terms) (j n : ℕ) → All (IsLate t) (late_marks_from t j n)
lates_are t j zero = λ k d lt. absurd (omega arith)
lates_are t j (suc n) = All-cons (IsLate t) (late_mark t j) (late_marks_from t (j + 1) n) (record { k = j; is = refl }) (lates_are t (j + 1) n)

not_by : (x d : ℕ) → not (nat_le x d) ≡ true → d < x
not_by x d e = grind (arith, nat_tests)

after_day : (d : ℕ) (xs : List Event) → All (λ (x : Event). d < x.day) (past d xs)
after_day d xs = λ k x lt. not_by _ d (filter_passes (λ e. not (nat_le e.day d)) xs k x lt)

by_day_of : (d : ℕ) (xs : List Event) → All (λ (x : Event). x.day ≤ d) (up_to d xs)
by_day_of d xs = λ k x lt. from_nat_le _ d (filter_passes (λ e. nat_le e.day d) xs k x lt)

events_by : (t : Terms) (live : List Entry) (d : ℕ) → All (λ (x : Event). x.day ≤ d) (events_to t live d)
events_by t live d = subst (All (λ (x : Event). x.day ≤ d)) (events_up_to t live d d (omega arith)) (by_day_of d (events_to t live d))

-- what happens after the business day within its month
past_are : (a : Account) (d : ℕ) → IsAccount a → a.today ≤ d → month_of d ≡ month_of a.today → All (IsLate a.terms) (past a.today (events_to a.terms (live_of a) d))
past_are a d h le month =
    let t = a.terms in
    let live = live_of a in
    let all = events_to t live d in
    let P : Event → Type 0 = λ e. a.today < e.day → IsLate t e in
    let from = h.after in
    let marks = months_by (month_of t.boarded + 1) (month_of d - month_of t.boarded) (month_of d) (omega (arith, from, le)) in
    let until = live_all (λ (x : Entry). x.day ≤ a.today) a.entries a.reversals h.until in
    let months : All P (month_marks t d) = λ k x lt after. absurd (let by = marks k x lt in omega (arith, by, after, month)) in
    let lates : All P (late_marks t d) = All-filter (λ e. nat_le e.day d) P (late_marks_from t 1 t.term) (λ k x lt after. lates_are t 1 t.term k x lt) in
    let entries : All P (entry_events live d) = All-filter (λ e. nat_le e.day d) P (map event_of live) (All-map P event_of live (λ k x lt after. absurd (let by = until k x lt in omega (arith, by, after)))) in
    let each = All-filter (λ e. not (nat_le e.day a.today)) P all (events_all P t live d months lates entries) in
    λ k x lt. each k x lt (after_day a.today all k x lt)

past_within : (t : Terms) (live : List Entry) (today d : ℕ) → month_of d ≡ month_of today → All (λ (e : Event). month_of e.day ≡ month_of today) (past today (events_to t live d))
past_within t live today d month =
    let all = events_to t live d in
    let until = All-filter (λ e. not (nat_le e.day today)) (λ (e : Event). e.day ≤ d) all (events_by t live d) in
    λ k x lt. (let after = after_day today all k x lt in let by = until k x lt in omega (arith, after, by, month))

-- ---- on the business day nothing more is paid in its month

-- the first of some events is in a month or after it, and where there is none, nothing is paid in it
abbrev BeginsIn : Terms → ℕ → Books → List Event → Type 0
BeginsIn t m b [] = IsStill t m b
BeginsIn t m b (e ∷ es) = m ≤ month_of e.day

goes_on : (t : Terms) (m : ℕ) (b : Books) (es : List Event) → m ≤ month_of b.day → AreInTurn b.day es → IsStill t m b → BeginsIn t m b es
goes_on t m b [] le turn still = still
goes_on t m b (e ∷ es) le turn still = let first = turn.0 in omega (arith, le, first)

step_day : (t : Terms) (e : Event) (b : Books) → (step t e b).day ≡ e.day
unfolding step
step_day t e b = refl

last_still : (t : Terms) (m d : ℕ) (b : Books) (es : List Event) → IsSound t → CanFold t b es → month_of d ≡ m → All (λ (e : Event). e.day ≤ d) es → BeginsIn t m b es → IsStill t m (folded t b es)
last_still t m d b [] s h month by from = from
last_still t m d b (e ∷ es) s h month by from =
    let here = All-head (λ (x : Event). x.day ≤ d) e es by in
    let same : month_of e.day ≡ m = omega (arith, here, month, from) in
    let whats = All-head (λ (x : Event). IsWhat x.what) e es h.whats in
    let still = subst (λ p. IsStill t p (step t e b)) same (step_still t e b s whats h.books.signs) in
    let later = can_fold_step t b e es s h in
    let day = step_day t e b in
    last_still t m d (step t e b) es s later month (All-tail (λ (x : Event). x.day ≤ d) e es by) (goes_on t m (step t e b) es (omega (arith, day, same)) later.turn still)

begins_past : (t : Terms) (m q : ℕ) (b : Books) (es : List Event) → first_day m ≤ q + 1 → All (λ (e : Event). q < e.day) es → (es ≡ [] → ⊥) → BeginsIn t m b es
begins_past t m q b [] le after some = absurd (some refl)
begins_past t m q b (e ∷ es) le after some = let first = All-head (λ (x : Event). q < x.day) e es after in omega (arith, le, first)

some_inserted : (e : Event) (xs : List Event) → insert_event e xs ≡ [] → ⊥
some_inserted e [] none = cc
some_inserted e (x ∷ xs) none = elim (nat_le e.day x.day) as (λ v. (if v then e ∷ x ∷ xs else x ∷ insert_event e xs) ≡ [] → ⊥) [ true ↦ λ h. cc | false ↦ λ h. cc ] none

-- a month that began after boarding has its mark
mark_past : (t : Terms) (live : List Entry) (d q : ℕ) → month_of t.boarded < month_of d → q + 1 ≡ first_day (month_of d) → past q (events_to t live d) ≡ [] → ⊥
unfolding events_to
mark_past t live d q lt is none =
    let months = month_marks t d in
    let lates = late_marks t d in
    let entries = entry_events live d in
    let m = month_of q + 1 in
    let from : m ≡ month_of d = omega (arith, is) in
    let count : month_of t.boarded + 1 + (month_of d - month_of t.boarded) - m ≡ suc zero = omega (arith, lt, from) in
    let first : past q months ≡ month_mark m ∷ [] = past_months q (month_of t.boarded + 1) (month_of d - month_of t.boarded) (omega (arith, lt, from)) ∙ ap (month_marks_from m) count in
    let all : past q (by_day (months ++ lates ++ entries)) ≡ insert_event (month_mark m) (by_day (past q lates ++ past q entries)) =
    past_by_day q (months ++ lates ++ entries)
    ∙ ap by_day (past_append q (months ++ lates) entries ∙ ap (λ xs. xs ++ past q entries) (past_append q months lates ∙ ap (λ xs. xs ++ past q lates) first)) in
    some_inserted (month_mark m) (by_day (past q lates ++ past q entries)) (sym all ∙ none)

start_day : (t : Terms) → (start t).day ≡ t.boarded
unfolding start
start_day t = refl

boarded_still : (a : Account) → IsAccount a → month_of a.terms.boarded ≡ month_of a.today → IsStill a.terms (month_of a.today) (books_of a a.today)
unfolding books_at
boarded_still a h same =
    let t = a.terms in
    let all = events_to t (live_of a) a.today in
    let folds = account_folds a a.today h in
    let day = start_day t in
    let first = goes_on t (month_of a.today) (start t) all (omega (arith, day, same)) folds.turn (start_still t (month_of a.today) h.terms) in
    let last = last_still t (month_of a.today) a.today (start t) all h.terms folds refl (events_by t (live_of a) a.today) first in
    record { installments = last.installments; late = last.late }

marked_month_still : (a : Account) (q : ℕ) → IsAccount a → month_of a.terms.boarded < month_of a.today → q + 1 ≡ first_day (month_of a.today) → IsStill a.terms (month_of a.today) (books_of a a.today)
marked_month_still a q h lt is =
    let t = a.terms in
    let live = live_of a in
    let m = month_of a.today in
    let le : q ≤ a.today = omega (arith, is) in
    let all = events_to t live a.today in
    let es = past q all in
    let b = books_at t live q in
    let folds = can_fold_past t live q a.today h.terms (live_entries_fold a h) (account_few a h) le in
    let by = All-filter (λ e. not (nat_le e.day q)) (λ (e : Event). e.day ≤ a.today) all (events_by t live a.today) in
    let first = begins_past t m q b es (omega (arith, is)) (after_day q all) (mark_past t live a.today q lt is) in
    let last = last_still t m a.today b es h.terms folds refl by first in
    subst (IsStill t m) (sym (books_past t live q a.today le)) (record { installments = last.installments; late = last.late })

today_still : (a : Account) → IsAccount a → IsStill a.terms (month_of a.today) (books_of a a.today)
today_still a h =
    let from = h.after in
    elim (nat_lt (month_of a.terms.boarded) (month_of a.today)) as (λ v. nat_lt (month_of a.terms.boarded) (month_of a.today) ≡ v → IsStill a.terms (month_of a.today) (books_of a a.today)) [
      | true ↦ λ e.
          let lt : month_of a.terms.boarded < month_of a.today = grind (arith, nat_tests) in
          marked_month_still a (first_day (month_of a.today) - 1) h lt (omega (arith, lt))
      | false ↦ λ e.
          let le : month_of a.today ≤ month_of a.terms.boarded = grind (arith, nat_tests) in
          boarded_still a h (omega (arith, from, le))
    ] refl

-- so a business day within the month leaves the books, but for their day and the late charges that are owed
pub quiet_money : (a : Account) (d : ℕ) → IsAccount a → a.today ≤ d → month_of d ≡ month_of a.today → SameMoney (books_of a a.today) (books_of a d)
quiet_money a d h le month =
    let t = a.terms in
    let live = live_of a in
    let b = books_of a a.today in
    let es = past a.today (events_to t live d) in
    let folds = can_fold_past t live a.today d h.terms (live_entries_fold a h) (account_few a h) le in
    let same = lates_money t (month_of a.today) b es h.terms folds (today_still a h) (past_are a d h le month) (past_within t live a.today d month) in
    subst (SameMoney b) (sym (books_past t live a.today d le)) (record { is = ap (on d) same.is })
