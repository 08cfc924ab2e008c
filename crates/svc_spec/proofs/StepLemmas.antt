-- What a step keeps: the signs of the numbers, that only satisfied loans have a balance of 0, and
-- all money.
use Rattle.std.proofs.Common.{◌≡◌, ℕ, zero, suc, ◌≤◌, true, false, arith, refl, sym, ◌∙◌}
use Rattle.std.specs.Prelude.{pos, ◌-ℤ◌, ◌≤ℤ◌, ◌<ℤ◌, ◌&&◌, ◌==◌, int_lt, int_le, nat_le, is_none, Some, if◌then◌else◌}
use Rattle.std.proofs.lemmas.Int.{ints, clamps}
use Rattle.svc_base.proofs.MoneyLemmas.{month_interest_low}
use Rattle.svc_base.proofs.CentsRules.{from_int_le, from_int_lt}
use Rattle.svc_types.specs.declared.terms.Terms.{Terms}
use Rattle.svc_types.specs.declared.books.Books.{Books}
use Rattle.svc_types.specs.Terms.{IsSound}
use Rattle.svc_spec.specs.Installments.{whole_part, principal_part, due_month}
use Rattle.svc_spec.specs.Settling.{is_movable, moves, moved_one, moved, late_paid, late_taken, is_overdue, marked}
use Rattle.svc_spec.specs.Books.{HaveSigns, total}
use Rattle.svc_spec.proofs.InstallmentLemmas.{IsBalance, principal_part_bounds}
use Rattle.svc_spec.proofs.SettlingLemmas.{is_movable-is, moves_more, moves_none, both, from_nat_eq, from_not_nat_eq}

-- ---- one installment

-- what is known where the open installment can be paid
pub record CanPay (t : Terms) (b : Books) : Type 0 where
  pub owed : pos 0 <ℤ b.upb
  pub covered : whole_part t b.plan b.earlier b.upb b.next ≤ℤ b.suspense

pub can_pay : (t : Terms) (by : ℕ) (b : Books) → is_movable t by b ≡ true → CanPay t b
can_pay t by b h =
    let parts = both (nat_le (due_month t b.next) by) (int_lt (pos 0) b.upb && int_le (whole_part t b.plan b.earlier b.upb b.next) b.suspense) (sym (is_movable-is t by b) ∙ h) in
    let inner = both (int_lt (pos 0) b.upb) (int_le (whole_part t b.plan b.earlier b.upb b.next) b.suspense) parts.1 in
    record { owed = from_int_lt (pos 0) b.upb inner.0; covered = from_int_le _ _ inner.1 }

pub last_takes_all : (t : Terms) (b : Books) → b.next ≡ t.term → principal_part t b.upb b.next ≡ b.upb
unfolding principal_part
last_takes_all t b e = grind arith

-- an installment is left open only before the term
open_after : (t : Terms) (b : Books) → HaveSigns t b → CanPay t b → pos 0 <ℤ (b.upb -ℤ principal_part t b.upb b.next) → suc b.next ≤ t.term
open_after t b h c left =
    let last = h.next_high c.owed in
    elim (b.next == t.term) as (λ v. (b.next == t.term) ≡ v → suc b.next ≤ t.term) [
      | true ↦ λ e. let same : b.next ≡ t.term = from_nat_eq b.next t.term e in let all = last_takes_all t b same in absurd (omega (arith, ints))
      | false ↦ λ e. let other = from_not_nat_eq b.next t.term e in omega arith
    ] refl

pub moved_one_signs : (t : Terms) (b : Books) → IsSound t → HaveSigns t b → CanPay t b → HaveSigns t (moved_one t b)
unfolding moved_one
moved_one_signs t b s h c =
    let balance : IsBalance t b.upb = record { low = h.upb_low; high = h.upb_high } in
    let principal = principal_part_bounds t b.upb b.next s balance in
    let interest = month_interest_low b.upb t.rate in
    let fee = month_interest_low b.upb t.fee in
    let last = h.next_high c.owed in
    let covered = c.covered in
    record { upb_low = omega (arith, ints, clamps); upb_high = omega (arith, ints, clamps); next_low = λ left. omega arith; next_high = open_after t b h c; suspense = omega (arith, ints); late_owed = h.late_owed; interest = omega (arith, ints); fee = omega (arith, ints); principal = omega (arith, ints); curtailed = h.curtailed; late_paid = h.late_paid; plan = h.plan; earlier = h.earlier }

pub moved_one_total : (t : Terms) (b : Books) → total (moved_one t b) ≡ total b
unfolding moved_one
moved_one_total t b = omega (arith, ints)

-- what an installment keeps, all installments keep
pub moved_keeps : (t : Terms) (by : ℕ) (P : Books → Type 0) → IsSound t → ((b : Books) → HaveSigns t b → CanPay t b → P b → P (moved_one t b)) → (n : ℕ) (b : Books) → moves t by b ≡ n → HaveSigns t b → P b → HaveSigns t (moved t n b) × P (moved t n b)
unfolding moved
moved_keeps t by P s keep zero b e h p = (h, p)
moved_keeps t by P s keep (suc n) b e h p =
    elim (is_movable t by b) as (λ v. is_movable t by b ≡ v → HaveSigns t (moved t n (moved_one t b)) × P (moved t n (moved_one t b))) [
      | true ↦ λ m.
          let c = can_pay t by b m in
          let more = moves_more t by b (h.next_low c.owed) m in
          let less : moves t by (moved_one t b) ≡ n = omega arith in
          moved_keeps t by P s keep n (moved_one t b) less (moved_one_signs t b s h c) (keep b h c p)
      | false ↦ λ m. let none = moves_none t by b s h m in absurd (omega arith)
    ] refl

-- ---- late charges and the mark of a satisfied loan

pub late_taken_signs : (t : Terms) (d : ℕ) (b : Books) → HaveSigns t b → HaveSigns t (late_taken t d b)
unfolding late_taken
late_taken_signs t d b h =
    elim (is_overdue t d b) as (λ v. HaveSigns t (if v then b else late_paid b)) [
      | true ↦ h
      | false ↦
          let suspense = h.suspense in
          let owed = h.late_owed in
          let paid = h.late_paid in
          record { upb_low = h.upb_low; upb_high = h.upb_high; next_low = h.next_low; next_high = h.next_high; suspense = omega (arith, ints, clamps); late_owed = omega (arith, ints, clamps); interest = h.interest; fee = h.fee; principal = h.principal; curtailed = h.curtailed; late_paid = omega (arith, ints, clamps); plan = h.plan; earlier = h.earlier }
    ]

pub late_taken_total : (t : Terms) (d : ℕ) (b : Books) → total (late_taken t d b) ≡ total b
unfolding late_taken
late_taken_total t d b =
    elim (is_overdue t d b) as (λ v. total (if v then b else late_paid b) ≡ total b) [
      | true ↦ refl
      | false ↦ omega (arith, ints)
    ]

pub marked_signs : (t : Terms) (d : ℕ) (b : Books) → HaveSigns t b → HaveSigns t (marked d b)
unfolding marked
marked_signs t d b h =
    elim (int_le b.upb (pos 0) && is_none b.satisfied) as (λ v. HaveSigns t (if v then record b { satisfied = Some d } else b)) [ true ↦ record { upb_low = h.upb_low; upb_high = h.upb_high; next_low = h.next_low; next_high = h.next_high; suspense = h.suspense; late_owed = h.late_owed; interest = h.interest; fee = h.fee; principal = h.principal; curtailed = h.curtailed; late_paid = h.late_paid; plan = h.plan; earlier = h.earlier } | false ↦ h ]

pub marked_total : (d : ℕ) (b : Books) → total (marked d b) ≡ total b
unfolding marked
marked_total d b =
    elim (int_le b.upb (pos 0) && is_none b.satisfied) as (λ v. total (if v then record b { satisfied = Some d } else b) ≡ total b) [ true ↦ refl | false ↦ refl ]
