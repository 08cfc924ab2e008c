-- The installments that are due, one after another, and which payments leave none of them open.
use Rattle.std.proofs.Common.{◌≡◌, ℕ, zero, suc, ◌+◌, ◌-◌, ◌≤◌, ◌<◌, ◌↔◌, true, false, arith, refl, sym, ◌∙◌}
use Rattle.std.specs.Prelude.{Bool, ℤ, pos, ◌+ℤ◌, ◌-ℤ◌, ◌≤ℤ◌, ◌<ℤ◌, ◌&&◌, ◌==◌, int_lt, int_le, nat_le, is_none, Some, if◌then◌else◌}
use Rattle.std.specs.Int.{int_max}
use Rattle.std.proofs.lemmas.Int.{ints, clamps}
use Rattle.svc_base.specs.Calendar.{month_of}
use Rattle.svc_base.proofs.CentsRules.{int_lt-true, int_lt-false, from_int_lt, from_not_int_lt, from_int_le, from_not_int_le}
use Rattle.svc_types.specs.declared.terms.Terms.{Terms}
use Rattle.svc_types.specs.declared.books.Books.{Books}
use Rattle.svc_types.specs.declared.account.Designation.TheVariants.{Regular}
use Rattle.svc_types.specs.declared.account.Act.TheVariants.{Pay}
use Rattle.svc_types.specs.declared.account.Event.{Event}
use Rattle.svc_types.specs.declared.account.What.TheVariants as what
use Rattle.svc_types.specs.Terms.{IsSound}
use Rattle.svc_spec.specs.Installments.{due_month, due_day, principal_part, whole_part}
use Rattle.svc_spec.specs.Settling.{greatest, need, they_exist, due_count, is_movable, moves, moved_one, moved, is_overdue, late_paid, late_taken, marked, settled_by}
use Rattle.svc_spec.specs.Books.{HaveSigns, IsEntryAmount}
use Rattle.svc_spec.specs.Step.{paid_in, step}
use Rattle.svc_spec.specs.Arrears.{installments_due, sum_due, arrears_of}
use Rattle.svc_spec.proofs.InstallmentLemmas.{IsBalance, balance_left}
use Rattle.svc_spec.proofs.SettlingLemmas.{from_nat_le, from_not_nat_le, from_nat_eq, from_not_nat_eq, nat_le-false, and_false, greatest_shift, greatest_none, need_low, both, due_by_month, is_movable-true, moves_more, moves_none}
use Rattle.svc_spec.proofs.StepLemmas.{CanPay, can_pay, last_takes_all, moved_one_signs, marked_signs}
use Rattle.svc_spec.proofs.ActLemmas.{paid_in_signs}

-- ---- what is due, one installment after another

-- the books with the open installment left behind, as far as the installments after it look at them
abbrev pub passed : Terms → Books → Books
passed t b = record b { upb = b.upb -ℤ principal_part t b.upb b.next; next = suc b.next }

-- the parts of being overdue
pub record IsDue (t : Terms) (d : ℕ) (b : Books) : Type 0 where
  pub owed : pos 0 <ℤ b.upb
  pub month : due_month t b.next ≤ month_of d

pub is_due : (t : Terms) (d : ℕ) (b : Books) → is_overdue t d b ≡ true → IsDue t d b
is_due t d b h =
    let parts = both (int_lt (pos 0) b.upb) (nat_le (due_day t b.next) d) h in
    record {
      owed = from_int_lt (pos 0) b.upb parts.0;
      month = from_nat_le (due_month t b.next) (month_of d) (sym (due_by_month t b.next d) ∙ parts.1);
    }

-- one more exists where a balance is owed
exist_more : (t : Terms) (u : ℤ) (k j : ℕ) → pos 0 <ℤ u → they_exist t u k (suc j) ≡ they_exist t (u -ℤ principal_part t u k) (suc k) j
unfolding they_exist
exist_more t u k j owed = rw (int_lt-true (pos 0) u owed)

exist_none : (t : Terms) (u : ℤ) (k j : ℕ) → u ≤ℤ pos 0 → they_exist t u k (suc j) ≡ false
unfolding they_exist
exist_none t u k j paid = rw (int_lt-false (pos 0) u paid)

exist_zero : (t : Terms) (u : ℤ) (k : ℕ) → they_exist t u k 0 ≡ true
unfolding they_exist
exist_zero t u k = refl

-- the open installment is due, and then those that it leaves
pub due_more : (t : Terms) (d : ℕ) (b : Books) → 1 ≤ b.next → is_overdue t d b ≡ true → installments_due t d b ≡ suc (installments_due t d (passed t b))
unfolding installments_due
due_more t d b low h =
    let due = is_due t d b h in
    let owed = due.owed in
    let month = due.month in
    let rest = b.upb -ℤ principal_part t b.upb b.next in
    let n = month_of d - due_month t b.next in
    let count : due_count t (month_of d) b.next ≡ suc n = omega arith in
    let less : due_count t (month_of d) (suc b.next) ≡ n = omega arith in
    rw (count, less) (greatest_shift (they_exist t b.upb b.next) (they_exist t rest (suc b.next)) n (λ k. exist_more t b.upb b.next k owed) (exist_more t b.upb b.next 0 owed ∙ exist_zero t rest (suc b.next)))

-- none is due where the open one is not
pub due_none : (t : Terms) (d : ℕ) (b : Books) → is_overdue t d b ≡ false → installments_due t d b ≡ 0
unfolding installments_due
due_none t d b h =
    elim (int_lt (pos 0) b.upb) as (λ v. int_lt (pos 0) b.upb ≡ v → greatest (they_exist t b.upb b.next) (due_count t (month_of d) b.next) ≡ 0) [
      | true ↦ λ owed.
          let late : nat_le (due_day t b.next) d ≡ false = rw owed at h in
          let later : month_of d < due_month t b.next = from_not_nat_le (due_month t b.next) (month_of d) (sym (due_by_month t b.next d) ∙ late) in
          let none : due_count t (month_of d) b.next ≡ 0 = omega arith in
          rw none
      | false ↦ λ paid. greatest_none (they_exist t b.upb b.next) (due_count t (month_of d) b.next) (λ k. exist_none t b.upb b.next k (from_not_int_lt (pos 0) b.upb paid))
    ] refl

pub sum_more : (t : Terms) (d : ℕ) (b : Books) → 1 ≤ b.next → is_overdue t d b ≡ true → sum_due t d b ≡ whole_part t b.plan b.earlier b.upb b.next +ℤ sum_due t d (passed t b)
unfolding need
sum_more t d b low h = rw (due_more t d b low h)

pub sum_none : (t : Terms) (d : ℕ) (b : Books) → is_overdue t d b ≡ false → sum_due t d b ≡ pos 0
unfolding need
sum_none t d b h = rw (due_none t d b h)

pub sum_low : (t : Terms) (d : ℕ) (b : Books) → IsSound t → HaveSigns t b → pos 0 ≤ℤ sum_due t d b
sum_low t d b s h =
    let balance : IsBalance t b.upb = record { low = h.upb_low; high = h.upb_high } in
    need_low t b.plan b.earlier b.upb b.next (installments_due t d b) s h.plan h.earlier balance

-- the installment after the open one is there only before the term
passed_high : (t : Terms) (b : Books) → HaveSigns t b → pos 0 <ℤ b.upb → pos 0 <ℤ (b.upb -ℤ principal_part t b.upb b.next) → suc b.next ≤ t.term
passed_high t b h owed left =
    let last = h.next_high owed in
    elim (b.next == t.term) as (λ v. (b.next == t.term) ≡ v → suc b.next ≤ t.term) [
      | true ↦ λ e. let same : b.next ≡ t.term = from_nat_eq b.next t.term e in let all = last_takes_all t b same in absurd (omega (arith, ints))
      | false ↦ λ e. let other = from_not_nat_eq b.next t.term e in omega arith
    ] refl

pub passed_signs : (t : Terms) (b : Books) → IsSound t → HaveSigns t b → pos 0 <ℤ b.upb → HaveSigns t (passed t b)
passed_signs t b s h owed =
    let left = balance_left t b.upb b.next s (record { low = h.upb_low; high = h.upb_high }) in
    record { upb_low = left.low; upb_high = left.high; next_low = λ more. omega arith; next_high = passed_high t b h owed; suspense = h.suspense; late_owed = h.late_owed; interest = h.interest; fee = h.fee; principal = h.principal; curtailed = h.curtailed; late_paid = h.late_paid; plan = h.plan; earlier = h.earlier }

-- ---- what settling leaves overdue

lt_shift : (a x s : ℤ) → int_lt (s -ℤ a) x ≡ int_lt s (a +ℤ x)
lt_shift a x s =
    elim (int_lt (s -ℤ a) x) as (λ v. int_lt (s -ℤ a) x ≡ v → v ≡ int_lt s (a +ℤ x)) [
      | true ↦ λ e. let h = from_int_lt (s -ℤ a) x e in sym (int_lt-true s (a +ℤ x) (omega (arith, ints)))
      | false ↦ λ e. let h = from_not_int_lt (s -ℤ a) x e in sym (int_lt-false s (a +ℤ x) (omega (arith, ints)))
    ] refl

-- the open installment is due and cannot be paid: suspense does not cover all that are due
short_of_all : (t : Terms) (by d : ℕ) (b : Books) → IsSound t → HaveSigns t b → month_of d ≤ by → is_movable t by b ≡ false → is_overdue t d b ≡ true → b.suspense <ℤ sum_due t d b
short_of_all t by d b s h within still due =
    let parts = is_due t d b due in
    let owed = parts.owed in
    let month = parts.month in
    let more = sum_more t d b (h.next_low owed) due in
    let rest = sum_low t d (passed t b) s (passed_signs t b s h owed) in
    elim (int_le (whole_part t b.plan b.earlier b.upb b.next) b.suspense) as (λ v. int_le (whole_part t b.plan b.earlier b.upb b.next) b.suspense ≡ v → b.suspense <ℤ sum_due t d b) [
      | true ↦ λ e.
          let moves : is_movable t by b ≡ true = is_movable-true t by b (omega arith) owed (from_int_le (whole_part t b.plan b.earlier b.upb b.next) b.suspense e) in
          absurd (cc)
      | false ↦ λ e. let lacks = from_not_int_le (whole_part t b.plan b.earlier b.upb b.next) b.suspense e in omega (arith, ints)
    ] refl

unmoved_overdue : (t : Terms) (by d : ℕ) (b : Books) → IsSound t → HaveSigns t b → month_of d ≤ by → is_movable t by b ≡ false → is_overdue t d b ≡ int_lt b.suspense (sum_due t d b)
unmoved_overdue t by d b s h within still =
    elim (is_overdue t d b) as (λ v. is_overdue t d b ≡ v → v ≡ int_lt b.suspense (sum_due t d b)) [
      | true ↦ λ e. sym (int_lt-true b.suspense (sum_due t d b) (short_of_all t by d b s h within still e))
      | false ↦ λ e. let suspense = h.suspense in let none = sum_none t d b e in sym (int_lt-false b.suspense (sum_due t d b) (omega (arith, ints)))
    ] refl

-- where the open installment is not due, none after it is
later_not_due : (t : Terms) (d : ℕ) (b : Books) → 1 ≤ b.next → pos 0 <ℤ b.upb → is_overdue t d b ≡ false → is_overdue t d (passed t b) ≡ false
later_not_due t d b low owed h =
    let late : nat_le (due_day t b.next) d ≡ false = rw (int_lt-true (pos 0) b.upb owed) at h in
    let later : month_of d < due_month t b.next = from_not_nat_le (due_month t b.next) (month_of d) (sym (due_by_month t b.next d) ∙ late) in
    let next : nat_le (due_day t (suc b.next)) d ≡ false = due_by_month t (suc b.next) d ∙ nat_le-false (due_month t (suc b.next)) (month_of d) (omega arith) in
    rw next (and_false (int_lt (pos 0) (b.upb -ℤ principal_part t b.upb b.next)))

-- an installment that is paid takes as much from suspense as from what is due, or none is due
paid_overdue : (t : Terms) (d : ℕ) (b : Books) → IsSound t → HaveSigns t b → CanPay t b → int_lt (b.suspense -ℤ whole_part t b.plan b.earlier b.upb b.next) (sum_due t d (passed t b)) ≡ int_lt b.suspense (sum_due t d b)
paid_overdue t d b s h can =
    let whole = whole_part t b.plan b.earlier b.upb b.next in
    let low = h.next_low can.owed in
    elim (is_overdue t d b) as (λ v. is_overdue t d b ≡ v → int_lt (b.suspense -ℤ whole) (sum_due t d (passed t b)) ≡ int_lt b.suspense (sum_due t d b)) [
      | true ↦ λ e. rw (sum_more t d b low e) (lt_shift whole (sum_due t d (passed t b)) b.suspense)
      | false ↦ λ e.
          let covered = can.covered in
          let suspense = h.suspense in
          let none = sum_none t d b e in
          let after = sum_none t d (passed t b) (later_not_due t d b low can.owed e) in
          int_lt-false (b.suspense -ℤ whole) (sum_due t d (passed t b)) (omega (arith, ints))
          ∙ sym (int_lt-false b.suspense (sum_due t d b) (omega (arith, ints)))
    ] refl

moved_one_sum : (t : Terms) (d : ℕ) (b : Books) → int_lt (moved_one t b).suspense (sum_due t d (moved_one t b)) ≡ int_lt (b.suspense -ℤ whole_part t b.plan b.earlier b.upb b.next) (sum_due t d (passed t b))
unfolding moved_one installments_due
moved_one_sum t d b = refl

-- what is paid up to a later month leaves an installment overdue exactly where suspense does not cover all
-- that are due
pub moved_overdue : (t : Terms) (by d n : ℕ) (b : Books) → IsSound t → month_of d ≤ by → moves t by b ≡ n → HaveSigns t b → is_overdue t d (moved t n b) ≡ int_lt b.suspense (sum_due t d b)
unfolding moved
moved_overdue t by d zero b s within e h =
    elim (is_movable t by b) as (λ v. is_movable t by b ≡ v → is_overdue t d b ≡ int_lt b.suspense (sum_due t d b)) [
      | true ↦ λ m. let c = can_pay t by b m in let more = moves_more t by b (h.next_low c.owed) m in absurd (omega arith)
      | false ↦ λ m. unmoved_overdue t by d b s h within m
    ] refl
moved_overdue t by d (suc n) b s within e h =
    elim (is_movable t by b) as (λ v. is_movable t by b ≡ v → is_overdue t d (moved t n (moved_one t b)) ≡ int_lt b.suspense (sum_due t d b)) [
      | true ↦ λ m.
          let c = can_pay t by b m in
          let more = moves_more t by b (h.next_low c.owed) m in
          let less : moves t by (moved_one t b) ≡ n = omega arith in
          moved_overdue t by d n (moved_one t b) s within less (moved_one_signs t b s h c)
          ∙ moved_one_sum t d b
          ∙ paid_overdue t d b s h c
      | false ↦ λ m. let none = moves_none t by b s h m in absurd (omega arith)
    ] refl

-- neither late charges nor the mark look at installments
late_overdue : (t : Terms) (d x : ℕ) (b : Books) → is_overdue t d (late_taken t x b) ≡ is_overdue t d b
unfolding late_taken
late_overdue t d x b = elim (is_overdue t x b) as (λ v. is_overdue t d (if v then b else late_paid b) ≡ is_overdue t d b) [ true ↦ refl | false ↦ refl ]

mark_overdue : (t : Terms) (d x : ℕ) (b : Books) → is_overdue t d (marked x b) ≡ is_overdue t d b
unfolding marked
mark_overdue t d x b = elim (int_le b.upb (pos 0) && is_none b.satisfied) as (λ v. is_overdue t d (if v then record b { satisfied = Some x } else b) ≡ is_overdue t d b) [ true ↦ refl | false ↦ refl ]

mark_sum : (t : Terms) (d x : ℕ) (b : Books) → int_lt (marked x b).suspense (sum_due t d (marked x b)) ≡ int_lt b.suspense (sum_due t d b)
unfolding marked installments_due
mark_sum t d x b = elim (int_le b.upb (pos 0) && is_none b.satisfied) as (λ v. (let y : Books = if v then record b { satisfied = Some x } else b in int_lt y.suspense (sum_due t d y) ≡ int_lt b.suspense (sum_due t d b))) [ true ↦ refl | false ↦ refl ]

settled_overdue : (t : Terms) (by d : ℕ) (b : Books) → IsSound t → month_of d ≤ by → HaveSigns t b → is_overdue t d (settled_by t by d b) ≡ int_lt b.suspense (sum_due t d b)
unfolding settled_by
settled_overdue t by d b s within h =
    let last = moved t (moves t by b) b in
    mark_overdue t d d (late_taken t d last)
    ∙ late_overdue t d d last
    ∙ moved_overdue t by d (moves t by b) b s within refl h

-- ---- a regular payment

abbrev pub payment_on : ℕ → ℤ → Event
payment_on d x = record { day = d; what = what.Act (Pay x Regular) }

paid_in_sum : (t : Terms) (d : ℕ) (x : ℤ) (b : Books) → int_lt (paid_in x b).suspense (sum_due t d (paid_in x b)) ≡ int_lt (b.suspense +ℤ x) (sum_due t d b)
unfolding installments_due
paid_in_sum t d x b = refl

paid_in_overdue : (t : Terms) (d : ℕ) (x : ℤ) (b : Books) → IsSound t → HaveSigns t (marked d (paid_in x b)) → is_overdue t d (step t (payment_on d x) b) ≡ int_lt (b.suspense +ℤ x) (sum_due t d b)
unfolding step
paid_in_overdue t d x b s h =
    settled_overdue t (month_of d + 1) d (marked d (paid_in x b)) s (omega arith) h
    ∙ mark_sum t d d (paid_in x b)
    ∙ paid_in_sum t d x b

least : (a s x : ℤ) (v : Bool) → pos 0 ≤ℤ x → v ≡ int_lt (s +ℤ x) a → (v ≡ false) ↔ (int_max (pos 0) (a -ℤ s) ≤ℤ x)
least a s x v low e = (
  (λ none. let covered = from_not_int_lt (s +ℤ x) a (sym e ∙ none) in omega (arith, ints, clamps)),
  (λ enough. e ∙ int_lt-false (s +ℤ x) a (omega (arith, ints, clamps))),
)

-- it leaves none of what is due open exactly where it is at least what is to be paid
pub payment_least : (t : Terms) (d : ℕ) (x : ℤ) (b : Books) → IsSound t → IsEntryAmount x → HaveSigns t b → (is_overdue t d (step t (payment_on d x) b) ≡ false) ↔ ((arrears_of t d b).pay ≤ℤ x)
payment_least t d x b s amount h =
    let signs = marked_signs t d (paid_in x b) (paid_in_signs t x b amount h) in
    least (sum_due t d b) b.suspense x (is_overdue t d (step t (payment_on d x) b)) amount.low (paid_in_overdue t d x b s signs)
