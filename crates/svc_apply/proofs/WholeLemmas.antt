-- An installment on a balance that is owed asks for something.
use Rattle.std.proofs.Common.{ℕ, true, false, arith}
use Rattle.std.specs.Prelude.{ℤ, pos, ◌<ℤ◌, ◌==◌, if◌then◌else◌}
use Rattle.std.proofs.lemmas.Int.{ints, clamps}
use Rattle.svc_base.proofs.MoneyLemmas.{month_interest_low, month_interest_rises}
use Rattle.svc_types.specs.declared.terms.Terms.{Terms}
use Rattle.svc_types.specs.declared.escrow.EscrowPlan.{EscrowPlan}
use Rattle.svc_types.specs.Terms.{IsSound}
use Rattle.svc_types.specs.LevelPayment.{level_principal}
use Rattle.svc_spec.specs.Books.{IsPlan}
use Rattle.svc_spec.specs.Installments.{principal_part, whole_part, due_month}
use Rattle.svc_spec.proofs.InstallmentLemmas.{IsBalance, escrow_part_bounds}

level_some : (t : Terms) (u : ℤ) → IsSound t → IsBalance t u → pos 0 <ℤ u → pos 0 <ℤ level_principal t u
unfolding level_principal
level_some t u s h owed =
    let rises = month_interest_rises u t.principal t.rate t.rate h.low h.high (omega arith) in
    let pi = s.pi_low in
    omega (arith, ints, clamps)

principal_some : (t : Terms) (u : ℤ) (k : ℕ) → IsSound t → IsBalance t u → pos 0 <ℤ u → pos 0 <ℤ principal_part t u k
unfolding principal_part
principal_some t u k s h owed =
    elim (k == t.term) as (λ v. pos 0 <ℤ (if v then u else level_principal t u)) [ true ↦ owed | false ↦ level_some t u s h owed ]

pub whole_some : (t : Terms) (p q : EscrowPlan) (u : ℤ) (k : ℕ) → IsSound t → IsPlan p → IsPlan q → IsBalance t u → pos 0 <ℤ u → pos 0 <ℤ whole_part t p q u k
whole_some t p q u k s hp hq h owed =
    let interest = month_interest_low u t.rate in
    let principal = principal_some t u k s h owed in
    let escrow = escrow_part_bounds p q (due_month t k) hp hq in
    omega (arith, ints)
