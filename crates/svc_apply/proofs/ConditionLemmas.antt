-- The books after an event meet what settling needs of them.
use Rattle.std.proofs.Common.{◌≡◌, ℕ, true, false, arith, refl, ◌∙◌}
use Rattle.std.specs.Int.{int_min}
use Rattle.std.specs.Prelude.{ℤ, pos, ◌+ℤ◌, ◌-ℤ◌, ◌≤ℤ◌, ◌&&◌, int_lt, int_le, nat_le, is_none, Some, if◌then◌else◌}
use Rattle.std.proofs.lemmas.Int.{ints, clamps}
use Rattle.svc_base.specs.Calendar.{month_of}
use Rattle.svc_base.specs.Money.{share_bp}
use Rattle.svc_base.proofs.MoneyLemmas.{month_interest_low, month_interest_rises, day_interest_low, day_interest_rises}
use Rattle.svc_base.proofs.CentsRules.{from_int_le}
use Rattle.svc_types.specs.declared.terms.Terms.{Terms}
use Rattle.svc_types.specs.declared.escrow.Settled.{Settled}
use Rattle.svc_types.specs.declared.books.Books.{Books}
use Rattle.svc_types.specs.declared.account.Designation.{Designation}
use Rattle.svc_types.specs.declared.account.Designation.TheVariants.{Regular, Principal, Escrow}
use Rattle.svc_types.specs.declared.account.Act.TheVariants.{Pay, Curtail, Payoff, Deposit, Disburse, Refund, Waive, Analyse}
use Rattle.svc_types.specs.declared.account.What.{What}
use Rattle.svc_types.specs.declared.account.What.TheVariants as what
use Rattle.svc_types.specs.Terms.{IsSound}
use Rattle.svc_spec.specs.Installments.{due_month}
use Rattle.svc_spec.specs.Settling.{moved_one, late_paid, late_taken, is_overdue, marked, settled_by}
use Rattle.svc_spec.specs.Payoff.{payoff_sum, payoff_days}
use Rattle.svc_spec.specs.Step.{paid_in, charged, to_principal, to_escrow, applied, paid, curtailed, paid_off, payoff_tried, deposited, refunded, waived, analysed, happened}
use Rattle.svc_spec.specs.Books.{IsEntryAmount, HaveSigns, AreBooks, IsWhat}
use Rattle.svc_spec.proofs.InstallmentLemmas.{IsBalance, principal_part_bounds, escrow_part_bounds}
use Rattle.svc_spec.proofs.SettlingLemmas.{both}
use Rattle.svc_spec.proofs.StepLemmas.{CanPay}
use Rattle.svc_spec.proofs.SettledLemmas.{settled_keeps}
use Rattle.svc_spec.proofs.ActLemmas.{from_suspense_bounds, owed_principal, paid_in_signs, paid_keeps}
use Rattle.svc_apply.specs.Conditions.{MaySettle, AreSums, AreNear, MayApply}

-- ---- what settling leaves

pub moved_one_may_settle : (t : Terms) (b : Books) → IsSound t → HaveSigns t b → CanPay t b → MaySettle b → MaySettle (moved_one t b)
unfolding moved_one
moved_one_may_settle t b s signs c h =
    let balance : IsBalance t b.upb = record { low = signs.upb_low; high = signs.upb_high } in
    let principal = principal_part_bounds t b.upb b.next s balance in
    let part = escrow_part_bounds b.plan b.earlier (due_month t b.next) signs.plan signs.earlier in
    let interest = month_interest_low b.upb t.rate in
    let fee = month_interest_low b.upb t.fee in
    let less = month_interest_rises b.upb b.upb t.fee t.rate signs.upb_low (omega (arith, ints)) s.fee in
    let covered = c.covered in
    record { upb_low = omega (arith, ints); suspense = omega (arith, ints); interest_low = omega (arith, ints); fee_low = omega (arith, ints); principal_low = omega (arith, ints); late_paid_low = omega (arith, ints); interest = omega (arith, ints); fee = omega (arith, ints); principal = omega (arith, ints); late_paid = omega (arith, ints); escrow = omega (arith, ints); escrow_low = omega (arith, ints) }

late_taken_may_settle : (t : Terms) (d : ℕ) (b : Books) → HaveSigns t b → MaySettle b → MaySettle (late_taken t d b)
unfolding late_taken
late_taken_may_settle t d b signs h =
    elim (is_overdue t d b) as (λ v. MaySettle (if v then b else late_paid b)) [
      | true ↦ h
      | false ↦
          let suspense = signs.suspense in
          let owed = signs.late_owed in
          record { upb_low = h.upb_low; suspense = omega (arith, ints, clamps); interest_low = h.interest_low; fee_low = h.fee_low; principal_low = h.principal_low; late_paid_low = omega (arith, ints, clamps); interest = omega (arith, ints, clamps); fee = omega (arith, ints, clamps); principal = omega (arith, ints, clamps); late_paid = omega (arith, ints, clamps); escrow = omega (arith, ints, clamps); escrow_low = h.escrow_low }
    ]

-- and so does the mark of a satisfied loan
marked_may_settle : (d : ℕ) (b : Books) → MaySettle b → MaySettle (marked d b)
unfolding marked
marked_may_settle d b h =
    elim (int_le b.upb (pos 0) && is_none b.satisfied) as (λ v. MaySettle (if v then record b { satisfied = Some d } else b)) [
      | true ↦ record { upb_low = h.upb_low; suspense = h.suspense; interest_low = h.interest_low; fee_low = h.fee_low; principal_low = h.principal_low; late_paid_low = h.late_paid_low; interest = h.interest; fee = h.fee; principal = h.principal; late_paid = h.late_paid; escrow = h.escrow; escrow_low = h.escrow_low }
      | false ↦ h
    ]

pub settled_may_settle : (t : Terms) (by d : ℕ) (b : Books) → IsSound t → HaveSigns t b → MaySettle b → MaySettle (settled_by t by d b)
settled_may_settle t by d b s signs h = settled_keeps t by d MaySettle s (λ x hx c r. moved_one_may_settle t x s hx c r) (λ x hx r. late_taken_may_settle t d x hx r) (λ x r. marked_may_settle d x r) b signs h

moved_one_curtailed : (t : Terms) (b : Books) → (moved_one t b).curtailed ≡ b.curtailed
unfolding moved_one
moved_one_curtailed t b = refl

late_taken_curtailed : (t : Terms) (d : ℕ) (b : Books) → (late_taken t d b).curtailed ≡ b.curtailed
unfolding late_taken
late_taken_curtailed t d b = elim (is_overdue t d b) as (λ v. (let x : Books = if v then b else late_paid b in x.curtailed ≡ b.curtailed)) [ true ↦ refl | false ↦ refl ]

marked_curtailed : (d : ℕ) (b : Books) → (marked d b).curtailed ≡ b.curtailed
unfolding marked
marked_curtailed d b = elim (int_le b.upb (pos 0) && is_none b.satisfied) as (λ v. (let x : Books = if v then record b { satisfied = Some d } else b in x.curtailed ≡ b.curtailed)) [ true ↦ refl | false ↦ refl ]

-- settling curtails nothing
pub settled_curtailed : (t : Terms) (by d : ℕ) (b : Books) → IsSound t → HaveSigns t b → (settled_by t by d b).curtailed ≡ b.curtailed
settled_curtailed t by d b s signs = settled_keeps t by d (λ x. x.curtailed ≡ b.curtailed) s (λ x hx c e. moved_one_curtailed t x ∙ e) (λ x hx e. late_taken_curtailed t d x ∙ e) (λ x e. marked_curtailed d x ∙ e) b signs refl

-- ---- what an event leaves

-- what the signs and the limits say of a step's first part, over plain books
books_may_settle : (t : Terms) (b : Books) → AreBooks t b → MaySettle b
books_may_settle t b h =
    let signs = h.signs in
    let within = h.within in
    record { upb_low = omega (arith, ints); suspense = omega (arith, ints); interest_low = omega (arith, ints); fee_low = omega (arith, ints); principal_low = omega (arith, ints); late_paid_low = omega (arith, ints); interest = omega (arith, ints); fee = omega (arith, ints); principal = omega (arith, ints); late_paid = omega (arith, ints); escrow = omega (arith, ints); escrow_low = omega (arith, ints) }

pub paid_in_may_settle : (t : Terms) (c : ℤ) (b : Books) → IsEntryAmount c → AreBooks t b → MaySettle (paid_in c b)
paid_in_may_settle t c b a h =
    let signs = h.signs in
    let within = h.within in
    record { upb_low = omega (arith, ints); suspense = omega (arith, ints); interest_low = omega (arith, ints); fee_low = omega (arith, ints); principal_low = omega (arith, ints); late_paid_low = omega (arith, ints); interest = omega (arith, ints); fee = omega (arith, ints); principal = omega (arith, ints); late_paid = omega (arith, ints); escrow = omega (arith, ints); escrow_low = omega (arith, ints) }

charged_may_settle : (t : Terms) (k : ℕ) (b : Books) → AreBooks t b → MaySettle (charged t k b)
unfolding charged
charged_may_settle t k b h =
    elim (int_lt (pos 0) b.upb && nat_le b.next k) as (λ v. MaySettle (if v then record b { late_owed = b.late_owed +ℤ share_bp t.pi t.late } else b)) [
      | true ↦ with_late (books_may_settle t b h)
      | false ↦ books_may_settle t b h
    ]
  where
    with_late : MaySettle b → MaySettle (record b { late_owed = b.late_owed +ℤ share_bp t.pi t.late })
    with_late h = record { upb_low = h.upb_low; suspense = h.suspense; interest_low = h.interest_low; fee_low = h.fee_low; principal_low = h.principal_low; late_paid_low = h.late_paid_low; interest = h.interest; fee = h.fee; principal = h.principal; late_paid = h.late_paid; escrow = h.escrow; escrow_low = h.escrow_low }

to_principal_may_settle : (x : ℤ) (b : Books) → pos 0 ≤ℤ x → MaySettle b → MaySettle (to_principal x b)
unfolding to_principal
to_principal_may_settle x b low h = record { upb_low = omega (arith, ints, clamps); suspense = omega (arith, ints, clamps); interest_low = h.interest_low; fee_low = h.fee_low; principal_low = omega (arith, ints, clamps); late_paid_low = h.late_paid_low; interest = omega (arith, ints, clamps); fee = omega (arith, ints, clamps); principal = omega (arith, ints, clamps); late_paid = omega (arith, ints, clamps); escrow = omega (arith, ints, clamps); escrow_low = h.escrow_low }

applied_may_settle : (to : Designation) (x : ℤ) (b : Books) → pos 0 ≤ℤ x → MaySettle b → MaySettle (applied to x b)
unfolding to_escrow
applied_may_settle Regular x b low h = h
applied_may_settle Principal x b low h = to_principal_may_settle x b low h
applied_may_settle Escrow x b low h = record { upb_low = h.upb_low; suspense = omega (arith, ints); interest_low = h.interest_low; fee_low = h.fee_low; principal_low = h.principal_low; late_paid_low = h.late_paid_low; interest = omega (arith, ints); fee = omega (arith, ints); principal = omega (arith, ints); late_paid = omega (arith, ints); escrow = omega (arith, ints); escrow_low = omega (arith, ints) }

paid_may_settle : (t : Terms) (d : ℕ) (c : ℤ) (to : Designation) (b : Books) → IsSound t → IsEntryAmount c → AreBooks t b → MaySettle (paid t d c to b)
paid_may_settle t d c to b s a h = paid_keeps t d c to b MaySettle s a h.signs (paid_in_may_settle t c b a h) (λ x hx r. settled_may_settle t (month_of d) d x s hx r) (λ to x y low within hy r. applied_may_settle to x y low r)

paid_off_may_settle : (t : Terms) (d : ℕ) (b : Books) → IsSound t → HaveSigns t b → AreNear b → int_lt (pos 0) b.upb ≡ true → payoff_sum t d b ≤ℤ b.suspense → MaySettle (paid_off t d b)
unfolding paid_off payoff_sum
paid_off_may_settle t d b s h n owed covered =
    let principal = owed_principal t d b owed in
    let interest = day_interest_low b.upb t.rate (payoff_days t d b) in
    let fee = day_interest_low b.upb t.fee (payoff_days t d b) in
    let less = day_interest_rises b.upb t.fee t.rate (payoff_days t d b) s.fee in
    record { upb_low = omega (arith, ints, clamps); suspense = omega (arith, ints, clamps); interest_low = omega (arith, ints, clamps); fee_low = omega (arith, ints, clamps); principal_low = omega (arith, ints, clamps); late_paid_low = omega (arith, ints, clamps); interest = omega (arith, ints, clamps); fee = omega (arith, ints, clamps); principal = omega (arith, ints, clamps); late_paid = omega (arith, ints, clamps); escrow = omega (arith, ints, clamps); escrow_low = omega (arith, ints, clamps) }

near_may_settle : (t : Terms) (b : Books) → HaveSigns t b → AreNear b → MaySettle b
near_may_settle t b h n = record { upb_low = omega (arith, ints); suspense = omega (arith, ints); interest_low = omega (arith, ints); fee_low = omega (arith, ints); principal_low = omega (arith, ints); late_paid_low = omega (arith, ints); interest = omega (arith, ints); fee = omega (arith, ints); principal = omega (arith, ints); late_paid = omega (arith, ints); escrow = omega (arith, ints); escrow_low = omega (arith, ints) }

payoff_tried_may_settle : (t : Terms) (d : ℕ) (b : Books) → IsSound t → HaveSigns t b → AreNear b → MaySettle (payoff_tried t d b)
unfolding payoff_tried
payoff_tried_may_settle t d b s h n =
    elim (int_lt (pos 0) b.upb && int_le (payoff_sum t d b) b.suspense) as (λ v. (int_lt (pos 0) b.upb && int_le (payoff_sum t d b) b.suspense) ≡ v → MaySettle (if v then paid_off t d b else b)) [
      | true ↦ λ e. let parts = both (int_lt (pos 0) b.upb) (int_le (payoff_sum t d b) b.suspense) e in paid_off_may_settle t d b s h n parts.0 (from_int_le (payoff_sum t d b) b.suspense parts.1)
      | false ↦ λ e. near_may_settle t b h n
    ] refl

paid_in_near : (t : Terms) (c : ℤ) (b : Books) → IsEntryAmount c → AreBooks t b → AreNear (paid_in c b)
paid_in_near t c b a h =
    let signs = h.signs in
    let within = h.within in
    record { escrow_low = within.escrow_low; escrow_high = within.escrow_high; suspense_low = omega (arith, ints); suspense_high = omega (arith, ints); late_owed = within.late_owed; interest = within.interest; fee = within.fee; principal = within.principal; late_paid = within.late_paid }

deposited_may_settle : (t : Terms) (c : ℤ) (b : Books) → IsEntryAmount c → AreBooks t b → MaySettle (deposited c b)
unfolding deposited
deposited_may_settle t c b a h =
    elim (int_lt (pos 0) b.upb) as (λ v. MaySettle (if v then record b { escrow = b.escrow +ℤ c } else record b { suspense = b.suspense +ℤ c })) [
      | true ↦ let signs = h.signs in let within = h.within in record { upb_low = omega (arith, ints); suspense = omega (arith, ints); interest_low = omega (arith, ints); fee_low = omega (arith, ints); principal_low = omega (arith, ints); late_paid_low = omega (arith, ints); interest = omega (arith, ints); fee = omega (arith, ints); principal = omega (arith, ints); late_paid = omega (arith, ints); escrow = omega (arith, ints); escrow_low = omega (arith, ints) }
      | false ↦ paid_in_may_settle t c b a h
    ]

disbursed_may_settle : (t : Terms) (c : ℤ) (b : Books) → IsEntryAmount c → AreBooks t b → MaySettle (record b { escrow = b.escrow -ℤ c })
disbursed_may_settle t c b a h =
    let signs = h.signs in
    let within = h.within in
    record { upb_low = omega (arith, ints); suspense = omega (arith, ints); interest_low = omega (arith, ints); fee_low = omega (arith, ints); principal_low = omega (arith, ints); late_paid_low = omega (arith, ints); interest = omega (arith, ints); fee = omega (arith, ints); principal = omega (arith, ints); late_paid = omega (arith, ints); escrow = omega (arith, ints); escrow_low = omega (arith, ints) }

refunded_may_settle : (t : Terms) (c : ℤ) (b : Books) → IsEntryAmount c → AreBooks t b → MaySettle (refunded c b)
unfolding refunded
refunded_may_settle t c b a h =
    let signs = h.signs in
    let within = h.within in
    let taken = from_suspense_bounds c b a h.signs.suspense in
    record { upb_low = omega (arith, ints); suspense = omega (arith, ints); interest_low = omega (arith, ints); fee_low = omega (arith, ints); principal_low = omega (arith, ints); late_paid_low = omega (arith, ints); interest = omega (arith, ints); fee = omega (arith, ints); principal = omega (arith, ints); late_paid = omega (arith, ints); escrow = omega (arith, ints); escrow_low = omega (arith, ints) }

waived_may_settle : (t : Terms) (c : ℤ) (b : Books) → AreBooks t b → MaySettle (waived c b)
waived_may_settle t c b h =
    let signs = h.signs in
    let within = h.within in
    record { upb_low = omega (arith, ints); suspense = omega (arith, ints); interest_low = omega (arith, ints); fee_low = omega (arith, ints); principal_low = omega (arith, ints); late_paid_low = omega (arith, ints); interest = omega (arith, ints); fee = omega (arith, ints); principal = omega (arith, ints); late_paid = omega (arith, ints); escrow = omega (arith, ints); escrow_low = omega (arith, ints) }

analysed_may_settle : (t : Terms) (s : Settled) (b : Books) → IsEntryAmount s.refund → AreBooks t b → MaySettle (analysed s b)
unfolding analysed
analysed_may_settle t s b a h =
    let signs = h.signs in
    let within = h.within in
    record { upb_low = omega (arith, ints); suspense = omega (arith, ints); interest_low = omega (arith, ints); fee_low = omega (arith, ints); principal_low = omega (arith, ints); late_paid_low = omega (arith, ints); interest = omega (arith, ints); fee = omega (arith, ints); principal = omega (arith, ints); late_paid = omega (arith, ints); escrow = omega (arith, ints); escrow_low = omega (arith, ints) }

happened_may_settle : (t : Terms) (d : ℕ) (w : What) (b : Books) → IsSound t → IsWhat w → AreBooks t b → MaySettle (happened t d w b)
happened_may_settle t d what.MonthMark b s a h = books_may_settle t b h
happened_may_settle t d (what.LateMark k) b s a h = charged_may_settle t k b h
happened_may_settle t d (what.Act (Pay c to)) b s a h = paid_may_settle t d c to b s a h
happened_may_settle t d (what.Act (Curtail c)) b s a h = to_principal_may_settle c (paid_in c b) a.low (paid_in_may_settle t c b a h)
happened_may_settle t d (what.Act (Payoff c)) b s a h = payoff_tried_may_settle t d (paid_in c b) s (paid_in_signs t c b a h.signs) (paid_in_near t c b a h)
happened_may_settle t d (what.Act (Deposit c)) b s a h = deposited_may_settle t c b a h
happened_may_settle t d (what.Act (Disburse c line)) b s a h = disbursed_may_settle t c b a h
happened_may_settle t d (what.Act (Refund c)) b s a h = refunded_may_settle t c b a h
happened_may_settle t d (what.Act (Waive c)) b s a h = waived_may_settle t c b h
happened_may_settle t d (what.Act (Analyse x)) b s a h = analysed_may_settle t x b a.0 h

pub event_may_settle : (t : Terms) (d : ℕ) (w : What) (b : Books) → IsSound t → IsWhat w → AreBooks t b → MaySettle (marked d (happened t d w b))
event_may_settle t d w b s a h = marked_may_settle d (happened t d w b) (happened_may_settle t d w b s a h)

-- what is left of a payment may be applied
pub rest_may_apply : (t : Terms) (c : ℤ) (b : Books) → IsSound t → IsEntryAmount c → HaveSigns t b → MaySettle b → b.curtailed ≤ℤ pos 1_000_000_000_000_000_000 → MayApply (int_min c b.suspense) b
rest_may_apply t c b s a signs h curtailed =
    let c_low = a.low in
    let suspense = signs.suspense in
    let high = signs.upb_high in
    let most = s.principal_high in
    record { low = omega (arith, ints, clamps); within = omega (arith, ints, clamps); upb_low = signs.upb_low; upb_high = omega (arith, ints); principal = omega (arith, ints); curtailed = curtailed; escrow = omega (arith, ints, clamps) }

-- and so may all of a curtailment
pub curtailment_may_apply : (c : ℤ) (b : Books) → IsEntryAmount c → AreSums b → MayApply c (paid_in c b)
curtailment_may_apply c b a h =
    let c_low = a.low in
    let c_high = a.high in
    let within = h.within in
    record { low = c_low; within = omega (arith, ints); upb_low = h.upb_low; upb_high = h.upb_high; principal = omega (arith, ints); curtailed = within.curtailed; escrow = omega (arith, ints) }
