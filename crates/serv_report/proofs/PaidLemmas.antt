-- What a month pays out, from the balances that stand in an analysis.
use Rattle.std.proofs.Common.{◌≡◌, ℕ, ◌+◌, ◌-◌, get_or, ap, ◌∙◌, arith, refl, add-one}
use Rattle.std.specs.Prelude.{ℤ, pos, ◌+ℤ◌, ◌-ℤ◌}
use Rattle.escrow_analysis.specs.declared.analysis.Analysis.{Analysis}
use Rattle.serv_report.specs.EscrowText.{trial_at, target_at, paid_in}

-- the trial balance of the month at a place
pub next_trial : (a : Analysis) (k : ℕ) → trial_at a (k + 1) ≡ get_or a.trial k (pos 0)
next_trial a k = rw add-one refl

-- what that month pays out
pub next_paid : (a : Analysis) (k : ℕ) → paid_in a (k + 1) ≡ a.base +ℤ trial_at a k -ℤ get_or a.trial k (pos 0)
next_paid a k =
    let place : k + 1 - 1 ≡ k = omega arith in
    ap (λ (j : ℕ). a.base +ℤ trial_at a j -ℤ trial_at a (k + 1)) place
    ∙ ap (λ (t : ℤ). a.base +ℤ trial_at a k -ℤ t) (next_trial a k)

-- the target balance of the month at a place
pub next_target : (a : Analysis) (k : ℕ) → target_at a (k + 1) ≡ get_or a.target k (pos 0)
next_target a k =
    let place : k + 1 - 1 ≡ k = omega arith in
    ap (λ (j : ℕ). get_or a.target j (pos 0)) place
