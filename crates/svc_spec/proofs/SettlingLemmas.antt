-- The greatest number of installments is one more than what is left after the first of them.
use Rattle.std.proofs.Common.{◌≡◌, ℕ, zero, suc, ◌-◌, ◌<◌, ◌≤◌, Bool, true, false, cond, arith, refl, sym, ap, ◌∙◌}
use Rattle.std.specs.Prelude.{ℤ, pos, ◌+ℤ◌, ◌-ℤ◌, ◌≤ℤ◌, ◌<ℤ◌, ◌&&◌, ◌==◌, ◌≢◌, int_lt, int_le, nat_le, if◌then◌else◌}
use Rattle.std.proofs.lemmas.Int.{ints}
use Rattle.svc_base.proofs.CentsRules.{int_le-true, int_le-false, int_lt-true, int_lt-false, from_int_le, from_not_int_le}
use Rattle.svc_types.specs.declared.terms.Terms.{Terms}
use Rattle.svc_types.specs.declared.escrow.EscrowPlan.{EscrowPlan}
use Rattle.svc_types.specs.declared.books.Books.{Books}
use Rattle.svc_types.specs.declared.books.Installment.{Installment}
use Rattle.svc_types.specs.Terms.{IsSound}
use Rattle.svc_base.specs.Calendar.{month_of}
use Rattle.svc_spec.specs.Installments.{whole_part, principal_part, due_month, due_day, installment}
use Rattle.svc_spec.specs.Settling.{greatest, need, they_exist, due_count, can_move, is_movable, moves, moved_one, moved, paid_installment}
use Rattle.svc_spec.specs.Books.{IsPlan, HaveSigns}
use Rattle.svc_spec.proofs.InstallmentLemmas.{IsBalance, whole_part_low, balance_left}

pub from_nat_le : (a b : ℕ) → nat_le a b ≡ true → a ≤ b
from_nat_le a b h = grind arith

pub from_not_nat_le : (a b : ℕ) → nat_le a b ≡ false → b < a
from_not_nat_le a b h = grind arith

pub from_nat_eq : (a b : ℕ) → (a == b) ≡ true → a ≡ b
from_nat_eq a b h = grind arith

pub from_not_nat_eq : (a b : ℕ) → (a == b) ≡ false → a ≢ b
from_not_nat_eq a b h = grind arith

pub and_false : (a : Bool) → (a && false) ≡ false
and_false true = refl
and_false false = refl

-- one more than the greatest number that passes the shifted test
pub greatest_shift : (p q : ℕ → Bool) (n : ℕ) → ((k : ℕ) → p (suc k) ≡ q k) → p 1 ≡ true → greatest p (suc n) ≡ suc (greatest q n)
greatest_shift p q zero h first = rw first
greatest_shift p q (suc n) h first =
    elim (q (suc n)) as (λ v. q (suc n) ≡ v → greatest p (suc (suc n)) ≡ suc (cond v (suc n) (greatest q n))) [
      | true ↦ λ e. rw (h (suc n), e)
      | false ↦ λ e. rw (h (suc n), e) (greatest_shift p q n h first)
    ] refl

-- nothing passes where no number above 0 does
pub greatest_none : (p : ℕ → Bool) (n : ℕ) → ((k : ℕ) → p (suc k) ≡ false) → greatest p n ≡ 0
greatest_none p zero h = refl
greatest_none p (suc n) h = rw (h n) (greatest_none p n h)

pub need_low : (t : Terms) (p q : EscrowPlan) (u : ℤ) (k j : ℕ) → IsSound t → IsPlan p → IsPlan q → IsBalance t u → pos 0 ≤ℤ need t p q u k j
unfolding need
need_low t p q u k zero s hp hq h = omega (arith, ints)
need_low t p q u k (suc j) s hp hq h =
    let first = whole_part_low t p q u k s hp hq h in
    let rest = need_low t p q (u -ℤ principal_part t u k) (suc k) j s hp hq (balance_left t u k s h) in
    omega (arith, ints)

le_shift : (a x s : ℤ) → int_le (a +ℤ x) s ≡ int_le x (s -ℤ a)
le_shift a x s =
    elim (int_le (a +ℤ x) s) as (λ v. int_le (a +ℤ x) s ≡ v → v ≡ int_le x (s -ℤ a)) [
      | true ↦ λ e. let h = from_int_le (a +ℤ x) s e in sym (int_le-true x (s -ℤ a) (omega (arith, ints)))
      | false ↦ λ e. let h = from_not_int_le (a +ℤ x) s e in sym (int_le-false x (s -ℤ a) (omega (arith, ints)))
    ] refl

-- suspense covers one more installment exactly where what the first leaves covers the others
can_shift : (t : Terms) (b : Books) (k : ℕ) → int_lt (pos 0) b.upb ≡ true → can_move t b (suc k) ≡ can_move t (moved_one t b) k
unfolding they_exist need moved_one
can_shift t b k owed = rw (owed, le_shift (whole_part t b.plan b.earlier b.upb b.next) (need t b.plan b.earlier (b.upb -ℤ principal_part t b.upb b.next) (suc b.next) k) b.suspense)

-- the parts of a test that holds
pub both : (a b : Bool) → (a && b) ≡ true → (a ≡ true) × (b ≡ true)
both true b h = (refl, h)
both false b h = cc

le_zero : (a s : ℤ) → int_le (a +ℤ pos 0) s ≡ int_le a s
le_zero a s = elim (int_le a s) as (λ v. int_le a s ≡ v → int_le (a +ℤ pos 0) s ≡ v) [
  | true ↦ λ e. let h = from_int_le a s e in int_le-true (a +ℤ pos 0) s (omega (arith, ints))
  | false ↦ λ e. let h = from_not_int_le a s e in int_le-false (a +ℤ pos 0) s (omega (arith, ints))
] refl

and_all : (a : Bool) → (a && true) ≡ a
and_all true = refl
and_all false = refl

-- whether the open installment can be paid: there is a balance, and suspense covers what it asks
can_move-one : (t : Terms) (b : Books) → can_move t b 1 ≡ (int_lt (pos 0) b.upb && int_le (whole_part t b.plan b.earlier b.upb b.next) b.suspense)
unfolding they_exist need
can_move-one t b = rw (and_all (int_lt (pos 0) b.upb), le_zero (whole_part t b.plan b.earlier b.upb b.next) b.suspense)

-- the parts of the test of the open installment
pub is_movable-is : (t : Terms) (by : ℕ) (b : Books) → is_movable t by b ≡ (nat_le (due_month t b.next) by && (int_lt (pos 0) b.upb && int_le (whole_part t b.plan b.earlier b.upb b.next) b.suspense))
is_movable-is t by b = ap (λ x. nat_le (due_month t b.next) by && x) (can_move-one t b)

-- one installment is moved: the others are those that it leaves
pub moves_more : (t : Terms) (by : ℕ) (b : Books) → 1 ≤ b.next → is_movable t by b ≡ true → moves t by b ≡ suc (moves t by (moved_one t b))
unfolding moves moved_one
moves_more t by b low h =
    let parts = both (nat_le (due_month t b.next) by) (can_move t b 1) h in
    let inner = both (int_lt (pos 0) b.upb) (int_le (whole_part t b.plan b.earlier b.upb b.next) b.suspense) (sym (can_move-one t b) ∙ parts.1) in
    let due : due_month t b.next ≤ by = from_nat_le (due_month t b.next) by parts.0 in
    let n = by - due_month t b.next in
    let count : due_count t by b.next ≡ suc n = omega arith in
    let less : due_count t by (suc b.next) ≡ n = omega arith in
    rw (count, less) (greatest_shift (can_move t b) (can_move t (moved_one t b)) n (λ k. can_shift t b k inner.0) parts.1)

-- none is moved: the greatest number is 0
cannot_move : (t : Terms) (b : Books) (k : ℕ) → IsSound t → HaveSigns t b → (int_lt (pos 0) b.upb && int_le (whole_part t b.plan b.earlier b.upb b.next) b.suspense) ≡ false → can_move t b (suc k) ≡ false
unfolding they_exist need
cannot_move t b k s h e =
    elim (int_lt (pos 0) b.upb) as (λ v. int_lt (pos 0) b.upb ≡ v → (int_lt (pos 0) b.upb && they_exist t (b.upb -ℤ principal_part t b.upb b.next) (suc b.next) k && int_le (whole_part t b.plan b.earlier b.upb b.next +ℤ need t b.plan b.earlier (b.upb -ℤ principal_part t b.upb b.next) (suc b.next) k) b.suspense) ≡ false) [
      | true ↦ λ owed.
          let lacks : int_le (whole_part t b.plan b.earlier b.upb b.next) b.suspense ≡ false = rw owed at e in
          let more = from_not_int_le (whole_part t b.plan b.earlier b.upb b.next) b.suspense lacks in
          let balance : IsBalance t b.upb = record { low = h.upb_low; high = h.upb_high } in
          let rest = need_low t b.plan b.earlier (b.upb -ℤ principal_part t b.upb b.next) (suc b.next) k s h.plan h.earlier (balance_left t b.upb b.next s balance) in
          let short : int_le (whole_part t b.plan b.earlier b.upb b.next +ℤ need t b.plan b.earlier (b.upb -ℤ principal_part t b.upb b.next) (suc b.next) k) b.suspense ≡ false = int_le-false (whole_part t b.plan b.earlier b.upb b.next +ℤ need t b.plan b.earlier (b.upb -ℤ principal_part t b.upb b.next) (suc b.next) k) b.suspense (omega (arith, ints)) in
          rw short (and_false _)
      | false ↦ λ paid. rw paid
    ] refl

pub moves_none : (t : Terms) (by : ℕ) (b : Books) → IsSound t → HaveSigns t b → is_movable t by b ≡ false → moves t by b ≡ 0
unfolding moves
moves_none t by b s h e =
    elim (nat_le (due_month t b.next) by) as (λ v. nat_le (due_month t b.next) by ≡ v → greatest (can_move t b) (due_count t by b.next) ≡ 0) [
      | true ↦ λ due.
          let lacks : (int_lt (pos 0) b.upb && int_le (whole_part t b.plan b.earlier b.upb b.next) b.suspense) ≡ false = rw due at (sym (is_movable-is t by b) ∙ e) in
          greatest_none (can_move t b) (due_count t by b.next) (λ k. cannot_move t b k s h lacks)
      | false ↦ λ late.
          let past : by < due_month t b.next = from_not_nat_le (due_month t b.next) by late in
          let none : due_count t by b.next ≡ 0 = omega arith in
          rw none
    ] refl

-- ---- what the test of the open installment answers

pub nat_le-true : (a b : ℕ) → a ≤ b → nat_le a b ≡ true
nat_le-true a b h = grind arith

pub nat_le-false : (a b : ℕ) → b < a → nat_le a b ≡ false
nat_le-false a b h = grind arith

and_true : (a b c : Bool) → a ≡ true → b ≡ true → c ≡ true → (a && (b && c)) ≡ true
and_true a b c ha hb hc = rw (ha, hb, hc)

third_false : (a b c : Bool) → c ≡ false → (a && (b && c)) ≡ false
third_false true true c h = h
third_false true false c h = refl
third_false false b c h = refl

pub is_movable-true : (t : Terms) (by : ℕ) (b : Books) → due_month t b.next ≤ by → pos 0 <ℤ b.upb → whole_part t b.plan b.earlier b.upb b.next ≤ℤ b.suspense → is_movable t by b ≡ true
is_movable-true t by b due owed covered = is_movable-is t by b ∙ and_true _ _ _ (nat_le-true (due_month t b.next) by due) (int_lt-true (pos 0) b.upb owed) (int_le-true (whole_part t b.plan b.earlier b.upb b.next) b.suspense covered)

pub is_movable-short : (t : Terms) (by : ℕ) (b : Books) → b.suspense <ℤ whole_part t b.plan b.earlier b.upb b.next → is_movable t by b ≡ false
is_movable-short t by b short = is_movable-is t by b ∙ third_false (nat_le (due_month t b.next) by) (int_lt (pos 0) b.upb) (int_le (whole_part t b.plan b.earlier b.upb b.next) b.suspense) (int_le-false (whole_part t b.plan b.earlier b.upb b.next) b.suspense short)

pub is_movable-paid : (t : Terms) (by : ℕ) (b : Books) → b.upb ≤ℤ pos 0 → is_movable t by b ≡ false
is_movable-paid t by b paid = is_movable-is t by b ∙ rw (int_lt-false (pos 0) b.upb paid) (and_false (nat_le (due_month t b.next) by))

-- ---- how many installments are moved

greatest_most : (p : ℕ → Bool) (n : ℕ) → greatest p n ≤ n
greatest_most p zero = omega arith
greatest_most p (suc n) = elim (p (suc n)) as (λ v. (if v then suc n else greatest p n) ≤ suc n) [ true ↦ omega arith | false ↦ omega (arith, greatest_most p n) ]

-- no more than are due by the month
pub moves_most : (t : Terms) (by : ℕ) (b : Books) → moves t by b ≤ due_count t by b.next
unfolding moves
moves_most t by b = greatest_most (can_move t b) (due_count t by b.next)

-- installments are due on first days of months: what is due on or before a day is due by its month
pub due_by_month : (t : Terms) (k d : ℕ) → nat_le (due_day t k) d ≡ nat_le (due_month t k) (month_of d)
due_by_month t k d =
    elim (nat_le (due_month t k) (month_of d)) as (λ v. nat_le (due_month t k) (month_of d) ≡ v → nat_le (due_day t k) d ≡ v) [
      | true ↦ λ e. let due = from_nat_le (due_month t k) (month_of d) e in nat_le-true (due_day t k) d (omega arith)
      | false ↦ λ e. let later = from_not_nat_le (due_month t k) (month_of d) e in nat_le-false (due_day t k) d (omega arith)
    ] refl

-- ---- the books that moving leaves

pub moved-more : (t : Terms) (by : ℕ) (b : Books) → 1 ≤ b.next → is_movable t by b ≡ true → moved t (moves t by (moved_one t b)) (moved_one t b) ≡ moved t (moves t by b) b
unfolding moved
moved-more t by b low m = rw (moves_more t by b low m)

pub moved-none : (t : Terms) (by : ℕ) (b : Books) → IsSound t → HaveSigns t b → is_movable t by b ≡ false → moved t (moves t by b) b ≡ b
unfolding moved
moved-none t by b s h m = rw (moves_none t by b s h m)

pub moved_one-is : (t : Terms) (i : Installment) (b : Books) → i ≡ installment t b → paid_installment i b ≡ moved_one t b
unfolding moved_one
moved_one-is t i b e = ap (λ x. paid_installment x b) e
