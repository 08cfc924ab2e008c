-- Bounds of the parts of an installment.
use Rattle.std.proofs.Common.{ℕ, true, false, arith}
use Rattle.std.specs.Prelude.{ℤ, pos, ◌-ℤ◌, ◌≤ℤ◌, ◌==◌, nat_le, if◌then◌else◌}
use Rattle.std.proofs.lemmas.Int.{ints, clamps}
use Rattle.svc_base.proofs.MoneyLemmas.{month_interest_low, month_interest_rises}
use Rattle.svc_types.specs.declared.terms.Terms.{Terms}
use Rattle.svc_types.specs.declared.escrow.EscrowPlan.{EscrowPlan}
use Rattle.svc_types.specs.Terms.{IsSound}
use Rattle.svc_types.specs.LevelPayment.{level_principal}
use Rattle.svc_spec.specs.Installments.{principal_part, asked, is_asked, escrow_of_plan, escrow_part, whole_part, due_month}
use Rattle.svc_spec.specs.Books.{IsEntryAmount, IsPlan}

-- a balance of a loan
pub record IsBalance (t : Terms) (u : ℤ) : Type 0 where
  pub low : pos 0 ≤ℤ u
  pub high : u ≤ℤ t.principal

pub level_principal_bounds : (t : Terms) (u : ℤ) → IsSound t → IsBalance t u → (pos 0 ≤ℤ level_principal t u) × (level_principal t u ≤ℤ u)
unfolding level_principal
level_principal_bounds t u s h =
    let rises = month_interest_rises u t.principal t.rate t.rate h.low h.high (omega arith) in
    let pi = s.pi_low in
    (omega (arith, ints, clamps), omega (arith, ints, clamps))

pub principal_part_bounds : (t : Terms) (u : ℤ) (k : ℕ) → IsSound t → IsBalance t u → (pos 0 ≤ℤ principal_part t u k) × (principal_part t u k ≤ℤ u)
unfolding principal_part
principal_part_bounds t u k s h =
    elim (k == t.term) as (λ v. (pos 0 ≤ℤ (if v then u else level_principal t u)) × ((if v then u else level_principal t u) ≤ℤ u)) [
      | true ↦ (h.low, omega (arith, ints))
      | false ↦ level_principal_bounds t u s h
    ]

pub asked_bounds : (start months m : ℕ) (z : ℤ) → IsEntryAmount z → IsEntryAmount (asked start months m z)
asked_bounds start months m z h =
    elim (is_asked start months m) as (λ v. IsEntryAmount (if v then z else pos 0)) [ true ↦ h | false ↦ record { low = omega (arith, ints); high = omega (arith, ints) } ]

-- what a plan asks lies from 0 to three such amounts
pub escrow_of_plan_bounds : (p : EscrowPlan) (m : ℕ) → IsPlan p → (pos 0 ≤ℤ escrow_of_plan p m) × (escrow_of_plan p m ≤ℤ pos 300_000_000_000_000)
unfolding escrow_of_plan
escrow_of_plan_bounds p m h =
    let short = asked_bounds p.start p.short_months m p.short h.short in
    let deficient = asked_bounds p.start p.deficient_months m p.deficient h.deficient in
    let credit = asked_bounds p.start 12 m p.credit h.credit in
    let base = h.base in
    (omega (arith, ints, clamps), omega (arith, ints, clamps))

pub escrow_part_bounds : (p q : EscrowPlan) (m : ℕ) → IsPlan p → IsPlan q → (pos 0 ≤ℤ escrow_part p q m) × (escrow_part p q m ≤ℤ pos 300_000_000_000_000)
unfolding escrow_part
escrow_part_bounds p q m hp hq =
    elim (nat_le p.start m) as (λ v. (pos 0 ≤ℤ escrow_of_plan (if v then p else q) m) × (escrow_of_plan (if v then p else q) m ≤ℤ pos 300_000_000_000_000)) [
      | true ↦ escrow_of_plan_bounds p m hp
      | false ↦ escrow_of_plan_bounds q m hq
    ]

pub whole_part_low : (t : Terms) (p q : EscrowPlan) (u : ℤ) (k : ℕ) → IsSound t → IsPlan p → IsPlan q → IsBalance t u → pos 0 ≤ℤ whole_part t p q u k
whole_part_low t p q u k s hp hq h =
    let interest = month_interest_low u t.rate in
    let principal = principal_part_bounds t u k s h in
    let escrow = escrow_part_bounds p q (due_month t k) hp hq in
    omega (arith, ints)

-- the balance that an installment leaves
pub balance_left : (t : Terms) (u : ℤ) (k : ℕ) → IsSound t → IsBalance t u → IsBalance t (u -ℤ principal_part t u k)
balance_left t u k s h =
    let principal = principal_part_bounds t u k s h in
    let low = h.low in
    let high = h.high in
    record { low = omega (arith, ints); high = omega (arith, ints) }
