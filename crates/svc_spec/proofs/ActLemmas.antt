-- What the acts and marks keep: the signs of the numbers, and all money.
use Rattle.std.proofs.Common.{◌≡◌, ℕ, true, false, arith, refl, ◌∙◌, ◌⊎◌, ⊎_elim}
use Rattle.std.specs.Prelude.{ℤ, pos, ◌+ℤ◌, ◌≤ℤ◌, ◌&&◌, ◌==◌, not, int_lt, int_le, nat_le, if◌then◌else◌}
use Rattle.std.specs.Int.{int_min}
use Rattle.std.proofs.lemmas.Int.{ints, clamps}
use Rattle.svc_base.specs.Calendar.{month_of}
use Rattle.svc_base.specs.Money.{day_interest, share_bp}
use Rattle.svc_base.proofs.MoneyLemmas.{day_interest_low, share_bp_low}
use Rattle.svc_base.proofs.CentsRules.{from_int_le}
use Rattle.svc_types.specs.declared.terms.Terms.{Terms}
use Rattle.svc_types.specs.declared.escrow.Settled.{Settled}
use Rattle.svc_types.specs.declared.books.Books.{Books}
use Rattle.svc_types.specs.declared.account.Designation.{Designation}
use Rattle.svc_types.specs.declared.account.Designation.TheVariants.{Regular, Principal, Escrow}
use Rattle.svc_types.specs.declared.account.Act.TheVariants.{Pay, Curtail, Payoff, Deposit, Disburse, Refund, Waive, Analyse}
use Rattle.svc_types.specs.declared.account.What.{What}
use Rattle.svc_types.specs.declared.account.What.TheVariants as what
use Rattle.svc_types.specs.Terms.{IsSound}
use Rattle.svc_spec.specs.Settling.{is_overdue, due_settled}
use Rattle.svc_spec.specs.Payoff.{payoff_sum, payoff_principal, payoff_days}
use Rattle.svc_spec.specs.Step.{paid_in, charged, to_principal, to_escrow, applied, rest_applied, paid, curtailed, paid_off, payoff_tried, deposited, from_suspense, refunded, waived, analysed, happened, brought_by, paid_out_by}
use Rattle.svc_spec.specs.Books.{IsEntryAmount, IsPlan, HaveSigns, IsWhat, total}
use Rattle.svc_spec.proofs.SettlingLemmas.{both}
use Rattle.svc_spec.proofs.SettledLemmas.{Falls, StaysPaid, stays_paid, falls_stays, settled_signs, settled_total, settled_satisfied}

le_refl : (z : ℤ) → z ≤ℤ z
le_refl z = omega (arith, ints)

pub paid_in_signs : (t : Terms) (c : ℤ) (b : Books) → IsEntryAmount c → HaveSigns t b → HaveSigns t (paid_in c b)
paid_in_signs t c b a h = let suspense = h.suspense in let low = a.low in record { upb_low = h.upb_low; upb_high = h.upb_high; next_low = h.next_low; next_high = h.next_high; suspense = omega (arith, ints); late_owed = h.late_owed; interest = h.interest; fee = h.fee; principal = h.principal; curtailed = h.curtailed; late_paid = h.late_paid; plan = h.plan; earlier = h.earlier }

paid_in_total : (c : ℤ) (b : Books) → total (paid_in c b) ≡ total b +ℤ c
paid_in_total c b = omega (arith, ints)

-- ---- late marks

charged_signs : (t : Terms) (k : ℕ) (b : Books) → HaveSigns t b → HaveSigns t (charged t k b)
unfolding charged
charged_signs t k b h =
    elim (int_lt (pos 0) b.upb && nat_le b.next k) as (λ v. HaveSigns t (if v then record b { late_owed = b.late_owed +ℤ share_bp t.pi t.late } else b)) [
      | true ↦ let owed = h.late_owed in let low = share_bp_low t.pi t.late in record { upb_low = h.upb_low; upb_high = h.upb_high; next_low = h.next_low; next_high = h.next_high; suspense = h.suspense; late_owed = omega (arith, ints); interest = h.interest; fee = h.fee; principal = h.principal; curtailed = h.curtailed; late_paid = h.late_paid; plan = h.plan; earlier = h.earlier }
      | false ↦ h
    ]

charged_total : (t : Terms) (k : ℕ) (b : Books) → total (charged t k b) ≡ total b
unfolding charged
charged_total t k b = elim (int_lt (pos 0) b.upb && nat_le b.next k) as (λ v. total (if v then record b { late_owed = b.late_owed +ℤ share_bp t.pi t.late } else b) ≡ total b) [ true ↦ refl | false ↦ refl ]

charged_falls : (t : Terms) (k : ℕ) (b : Books) → Falls b (charged t k b)
unfolding charged
charged_falls t k b = elim (int_lt (pos 0) b.upb && nat_le b.next k) as (λ v. Falls b (if v then record b { late_owed = b.late_owed +ℤ share_bp t.pi t.late } else b)) [
  | true ↦ record { upb = le_refl b.upb; satisfied = refl }
  | false ↦ record { upb = le_refl b.upb; satisfied = refl }
]

-- ---- what is applied to principal and to escrow

to_principal_signs : (t : Terms) (x : ℤ) (b : Books) → pos 0 ≤ℤ x → x ≤ℤ b.suspense → HaveSigns t b → HaveSigns t (to_principal x b)
unfolding to_principal
to_principal_signs t x b low within h =
    let upb_low = h.upb_low in
    let upb_high = h.upb_high in
    let suspense = h.suspense in
    let principal = h.principal in
    let before = h.curtailed in
    record { upb_low = omega (arith, ints, clamps); upb_high = omega (arith, ints, clamps); next_low = λ left. h.next_low (omega (arith, ints, clamps)); next_high = λ left. h.next_high (omega (arith, ints, clamps)); suspense = omega (arith, ints, clamps); late_owed = h.late_owed; interest = h.interest; fee = h.fee; principal = omega (arith, ints, clamps); curtailed = omega (arith, ints, clamps); late_paid = h.late_paid; plan = h.plan; earlier = h.earlier }

to_principal_total : (x : ℤ) (b : Books) → total (to_principal x b) ≡ total b
unfolding to_principal
to_principal_total x b = omega (arith, ints)

to_principal_falls : (x : ℤ) (b : Books) → pos 0 ≤ℤ x → pos 0 ≤ℤ b.upb → Falls b (to_principal x b)
unfolding to_principal
to_principal_falls x b low upb = record { upb = omega (arith, ints, clamps); satisfied = refl }

to_escrow_signs : (t : Terms) (x : ℤ) (b : Books) → x ≤ℤ b.suspense → HaveSigns t b → HaveSigns t (to_escrow x b)
unfolding to_escrow
to_escrow_signs t x b within h =
    let suspense = h.suspense in
    record { upb_low = h.upb_low; upb_high = h.upb_high; next_low = h.next_low; next_high = h.next_high; suspense = omega (arith, ints); late_owed = h.late_owed; interest = h.interest; fee = h.fee; principal = h.principal; curtailed = h.curtailed; late_paid = h.late_paid; plan = h.plan; earlier = h.earlier }

to_escrow_total : (x : ℤ) (b : Books) → total (to_escrow x b) ≡ total b
unfolding to_escrow
to_escrow_total x b = omega (arith, ints)

to_escrow_falls : (x : ℤ) (b : Books) → Falls b (to_escrow x b)
unfolding to_escrow
to_escrow_falls x b = record { upb = le_refl b.upb; satisfied = refl }

applied_signs : (t : Terms) (to : Designation) (x : ℤ) (b : Books) → pos 0 ≤ℤ x → x ≤ℤ b.suspense → HaveSigns t b → HaveSigns t (applied to x b)
applied_signs t Regular x b low within h = h
applied_signs t Principal x b low within h = to_principal_signs t x b low within h
applied_signs t Escrow x b low within h = to_escrow_signs t x b within h

applied_total : (to : Designation) (x : ℤ) (b : Books) → total (applied to x b) ≡ total b
applied_total Regular x b = refl
applied_total Principal x b = to_principal_total x b
applied_total Escrow x b = to_escrow_total x b

applied_falls : (to : Designation) (x : ℤ) (b : Books) → pos 0 ≤ℤ x → pos 0 ≤ℤ b.upb → Falls b (applied to x b)
applied_falls Regular x b low upb = record { upb = le_refl b.upb; satisfied = refl }
applied_falls Principal x b low upb = to_principal_falls x b low upb
applied_falls Escrow x b low upb = to_escrow_falls x b

curtailed_signs : (t : Terms) (c : ℤ) (b : Books) → IsEntryAmount c → HaveSigns t b → HaveSigns t (curtailed c b)
curtailed_signs t c b a h = let suspense = h.suspense in to_principal_signs t c (paid_in c b) a.low (omega (arith, ints)) (paid_in_signs t c b a h)

curtailed_total : (c : ℤ) (b : Books) → total (curtailed c b) ≡ total b +ℤ c
curtailed_total c b = to_principal_total c (paid_in c b) ∙ paid_in_total c b

curtailed_falls : (c : ℤ) (b : Books) → IsEntryAmount c → pos 0 ≤ℤ b.upb → Falls b (curtailed c b)
curtailed_falls c b a low = let f = to_principal_falls c (paid_in c b) a.low low in record { upb = f.upb; satisfied = f.satisfied }

-- ---- payments

-- what no amount within suspense that is applied changes, the rest of a payment does not
pub rest_applied_keeps : (t : Terms) (d : ℕ) (c : ℤ) (to : Designation) (b : Books) (P : Books → Type 0) → IsEntryAmount c → pos 0 ≤ℤ b.suspense → ((x : ℤ) → pos 0 ≤ℤ x → x ≤ℤ b.suspense → P (applied to x b)) → P b → P (rest_applied t d c to b)
unfolding rest_applied
rest_applied_keeps t d c to b P a low keep p =
    let c_low = a.low in
    elim (int_lt (pos 0) b.upb && not (is_overdue t d b)) as (λ v. P (if v then applied to (int_min c b.suspense) b else b)) [
      | true ↦ keep (int_min c b.suspense) (omega (arith, ints, clamps)) (omega (arith, ints, clamps))
      | false ↦ p
    ]

-- what money that waits brings, and settling and applying keep, holds after a payment
pub paid_keeps : (t : Terms) (d : ℕ) (c : ℤ) (to : Designation) (b : Books) (P : Books → Type 0) → IsSound t → IsEntryAmount c → HaveSigns t b → P (paid_in c b) → ((x : Books) → HaveSigns t x → P x → P (due_settled t d x)) → ((to : Designation) (x : ℤ) (y : Books) → pos 0 ≤ℤ x → x ≤ℤ y.suspense → HaveSigns t y → P y → P (applied to x y)) → P (paid t d c to b)
paid_keeps t d c to b P s a h p settle apply = cases to
  where
    signs : HaveSigns t (due_settled t d (paid_in c b))
    signs = settled_signs t (month_of d) d (paid_in c b) s (paid_in_signs t c b a h)

    due : P (due_settled t d (paid_in c b))
    due = settle (paid_in c b) (paid_in_signs t c b a h) p

    rest : (to : Designation) → P (rest_applied t d c to (due_settled t d (paid_in c b)))
    rest to = rest_applied_keeps t d c to (due_settled t d (paid_in c b)) P a signs.suspense (λ x low within. apply to x (due_settled t d (paid_in c b)) low within signs due) due

    cases : (to : Designation) → P (paid t d c to b)
    cases Regular = p
    cases Principal = rest Principal
    cases Escrow = rest Escrow

pub paid-designated : (t : Terms) (d : ℕ) (c : ℤ) (to : Designation) (b : Books) → (to ≡ Principal) ⊎ (to ≡ Escrow) → paid t d c to b ≡ rest_applied t d c to (due_settled t d (paid_in c b))
paid-designated t d c to b h = ⊎_elim (λ e. rw e) (λ e. rw e) h

paid_signs : (t : Terms) (d : ℕ) (c : ℤ) (to : Designation) (b : Books) → IsSound t → IsEntryAmount c → HaveSigns t b → HaveSigns t (paid t d c to b)
paid_signs t d c to b s a h = paid_keeps t d c to b (HaveSigns t) s a h (paid_in_signs t c b a h) (λ x hx p. settled_signs t (month_of d) d x s hx) (λ to x y low within hy p. applied_signs t to x y low within hy)

paid_total : (t : Terms) (d : ℕ) (c : ℤ) (to : Designation) (b : Books) → IsSound t → IsEntryAmount c → HaveSigns t b → total (paid t d c to b) ≡ total b +ℤ c
paid_total t d c to b s a h = paid_keeps t d c to b (λ x. total x ≡ total b +ℤ c) s a h (paid_in_total c b) (λ x hx e. settled_total t (month_of d) d x s hx ∙ e) (λ to x y low within hy e. applied_total to x y ∙ e)

paid_stays : (t : Terms) (d : ℕ) (c : ℤ) (to : Designation) (b : Books) → IsSound t → IsEntryAmount c → HaveSigns t b → StaysPaid b → StaysPaid (paid t d c to b)
paid_stays t d c to b s a h stays =
    paid_keeps t d c to b StaysPaid s a h (falls_stays b (paid_in c b) stays (record { upb = le_refl b.upb; satisfied = refl })) (λ x hx p. stays_paid (due_settled t d x) (settled_satisfied t (month_of d) d x s hx p)) (λ to x y low within hy p. falls_stays y (applied to x y) p (applied_falls to x y low hy.upb_low))

-- ---- payoffs

paid_off_signs : (t : Terms) (d : ℕ) (b : Books) → HaveSigns t b → payoff_sum t d b ≤ℤ b.suspense → HaveSigns t (paid_off t d b)
unfolding paid_off
paid_off_signs t d b h covered =
    let upb_low = h.upb_low in
    let upb_high = h.upb_high in
    let owed = h.late_owed in
    let paid = h.late_paid in
    let interest = h.interest in
    let fee = h.fee in
    let principal = h.principal in
    let days = day_interest_low b.upb t.rate (payoff_days t d b) in
    let part = day_interest_low b.upb t.fee (payoff_days t d b) in
    record { upb_low = omega (arith, ints); upb_high = omega (arith, ints); next_low = λ left. absurd (omega (arith, ints)); next_high = λ left. absurd (omega (arith, ints)); suspense = omega (arith, ints); late_owed = omega (arith, ints); interest = omega (arith, ints); fee = omega (arith, ints); principal = omega (arith, ints); curtailed = h.curtailed; late_paid = omega (arith, ints); plan = h.plan; earlier = h.earlier }

pub owed_principal : (t : Terms) (d : ℕ) (b : Books) → int_lt (pos 0) b.upb ≡ true → payoff_principal t d b ≡ b.upb +ℤ day_interest b.upb t.rate (payoff_days t d b)
unfolding payoff_principal
owed_principal t d b owed = rw owed

paid_off_total : (t : Terms) (d : ℕ) (b : Books) → int_lt (pos 0) b.upb ≡ true → total (paid_off t d b) ≡ total b
unfolding paid_off payoff_sum
paid_off_total t d b owed = omega (arith, ints, owed_principal t d b owed)

payoff_tried_signs : (t : Terms) (d : ℕ) (b : Books) → HaveSigns t b → HaveSigns t (payoff_tried t d b)
unfolding payoff_tried
payoff_tried_signs t d b h =
    elim (int_lt (pos 0) b.upb && int_le (payoff_sum t d b) b.suspense) as (λ v. (int_lt (pos 0) b.upb && int_le (payoff_sum t d b) b.suspense) ≡ v → HaveSigns t (if v then paid_off t d b else b)) [
      | true ↦ λ e. paid_off_signs t d b h (from_int_le (payoff_sum t d b) b.suspense (both (int_lt (pos 0) b.upb) (int_le (payoff_sum t d b) b.suspense) e).1)
      | false ↦ λ e. h
    ] refl

payoff_tried_total : (t : Terms) (d : ℕ) (b : Books) → total (payoff_tried t d b) ≡ total b
unfolding payoff_tried
payoff_tried_total t d b =
    elim (int_lt (pos 0) b.upb && int_le (payoff_sum t d b) b.suspense) as (λ v. (int_lt (pos 0) b.upb && int_le (payoff_sum t d b) b.suspense) ≡ v → total (if v then paid_off t d b else b) ≡ total b) [
      | true ↦ λ e. paid_off_total t d b (both (int_lt (pos 0) b.upb) (int_le (payoff_sum t d b) b.suspense) e).0
      | false ↦ λ e. refl
    ] refl

payoff_tried_falls : (t : Terms) (d : ℕ) (b : Books) → pos 0 ≤ℤ b.upb → Falls b (payoff_tried t d b)
unfolding payoff_tried paid_off
payoff_tried_falls t d b low =
    elim (int_lt (pos 0) b.upb && int_le (payoff_sum t d b) b.suspense) as (λ v. Falls b (if v then paid_off t d b else b)) [
      | true ↦ record { upb = low; satisfied = refl }
      | false ↦ record { upb = le_refl b.upb; satisfied = refl }
    ]

-- ---- deposits, refunds, waivers, analyses

deposited_signs : (t : Terms) (c : ℤ) (b : Books) → IsEntryAmount c → HaveSigns t b → HaveSigns t (deposited c b)
unfolding deposited
deposited_signs t c b a h =
    elim (int_lt (pos 0) b.upb) as (λ v. HaveSigns t (if v then record b { escrow = b.escrow +ℤ c } else record b { suspense = b.suspense +ℤ c })) [
      | true ↦ record { upb_low = h.upb_low; upb_high = h.upb_high; next_low = h.next_low; next_high = h.next_high; suspense = h.suspense; late_owed = h.late_owed; interest = h.interest; fee = h.fee; principal = h.principal; curtailed = h.curtailed; late_paid = h.late_paid; plan = h.plan; earlier = h.earlier }
      | false ↦ paid_in_signs t c b a h
    ]

deposited_total : (c : ℤ) (b : Books) → total (deposited c b) ≡ total b +ℤ c
unfolding deposited
deposited_total c b =
    elim (int_lt (pos 0) b.upb) as (λ v. total (if v then record b { escrow = b.escrow +ℤ c } else record b { suspense = b.suspense +ℤ c }) ≡ total b +ℤ c) [ true ↦ omega (arith, ints) | false ↦ omega (arith, ints) ]

deposited_falls : (c : ℤ) (b : Books) → Falls b (deposited c b)
unfolding deposited
deposited_falls c b =
    elim (int_lt (pos 0) b.upb) as (λ v. Falls b (if v then record b { escrow = b.escrow +ℤ c } else record b { suspense = b.suspense +ℤ c })) [ true ↦ record { upb = le_refl b.upb; satisfied = refl } | false ↦ record { upb = le_refl b.upb; satisfied = refl } ]

-- what a refund takes from suspense is there
pub from_suspense_bounds : (c : ℤ) (b : Books) → IsEntryAmount c → pos 0 ≤ℤ b.suspense → (pos 0 ≤ℤ from_suspense c b) × (from_suspense c b ≤ℤ b.suspense) × (from_suspense c b ≤ℤ c)
unfolding from_suspense
from_suspense_bounds c b a low =
    let c_low = a.low in
    elim (int_lt (pos 0) b.upb) as (λ v. (pos 0 ≤ℤ (if v then pos 0 else int_min b.suspense c)) × ((if v then pos 0 else int_min b.suspense c) ≤ℤ b.suspense) × ((if v then pos 0 else int_min b.suspense c) ≤ℤ c)) [
      | true ↦ (omega (arith, ints), low, c_low)
      | false ↦ (omega (arith, ints, clamps), omega (arith, ints, clamps), omega (arith, ints, clamps))
    ]

refunded_signs : (t : Terms) (c : ℤ) (b : Books) → IsEntryAmount c → HaveSigns t b → HaveSigns t (refunded c b)
unfolding refunded
refunded_signs t c b a h =
    let taken = from_suspense_bounds c b a h.suspense in
    let suspense = h.suspense in
    record { upb_low = h.upb_low; upb_high = h.upb_high; next_low = h.next_low; next_high = h.next_high; suspense = omega (arith, ints); late_owed = h.late_owed; interest = h.interest; fee = h.fee; principal = h.principal; curtailed = h.curtailed; late_paid = h.late_paid; plan = h.plan; earlier = h.earlier }

refunded_total : (c : ℤ) (b : Books) → total (refunded c b) +ℤ c ≡ total b
unfolding refunded
refunded_total c b = omega (arith, ints)

waived_signs : (t : Terms) (c : ℤ) (b : Books) → IsEntryAmount c → HaveSigns t b → HaveSigns t (waived c b)
waived_signs t c b a h =
    let owed = h.late_owed in
    let c_low = a.low in
    record { upb_low = h.upb_low; upb_high = h.upb_high; next_low = h.next_low; next_high = h.next_high; suspense = h.suspense; late_owed = omega (arith, ints, clamps); interest = h.interest; fee = h.fee; principal = h.principal; curtailed = h.curtailed; late_paid = h.late_paid; plan = h.plan; earlier = h.earlier }

analysed_signs : (t : Terms) (s : Settled) (b : Books) → IsPlan s.plan → HaveSigns t b → HaveSigns t (analysed s b)
unfolding analysed
analysed_signs t s b a h =
    let earlier : IsPlan (if s.plan.start == b.plan.start then b.earlier else b.plan) = elim (s.plan.start == b.plan.start) as (λ v. IsPlan (if v then b.earlier else b.plan)) [ true ↦ h.earlier | false ↦ h.plan ] in
    record { upb_low = h.upb_low; upb_high = h.upb_high; next_low = h.next_low; next_high = h.next_high; suspense = h.suspense; late_owed = h.late_owed; interest = h.interest; fee = h.fee; principal = h.principal; curtailed = h.curtailed; late_paid = h.late_paid; plan = a; earlier = earlier }

analysed_total : (s : Settled) (b : Books) → total (analysed s b) +ℤ s.refund ≡ total b
unfolding analysed
analysed_total s b = omega (arith, ints)

analysed_falls : (s : Settled) (b : Books) → Falls b (analysed s b)
unfolding analysed
analysed_falls s b = record { upb = le_refl b.upb; satisfied = refl }

refunded_falls : (c : ℤ) (b : Books) → Falls b (refunded c b)
unfolding refunded
refunded_falls c b = record { upb = le_refl b.upb; satisfied = refl }

-- ---- all of them

pub happened_signs : (t : Terms) (d : ℕ) (w : What) (b : Books) → IsSound t → IsWhat w → HaveSigns t b → HaveSigns t (happened t d w b)
happened_signs t d what.MonthMark b s a h = h
happened_signs t d (what.LateMark k) b s a h = charged_signs t k b h
happened_signs t d (what.Act (Pay c to)) b s a h = paid_signs t d c to b s a h
happened_signs t d (what.Act (Curtail c)) b s a h = curtailed_signs t c b a h
happened_signs t d (what.Act (Payoff c)) b s a h = payoff_tried_signs t d (paid_in c b) (paid_in_signs t c b a h)
happened_signs t d (what.Act (Deposit c)) b s a h = deposited_signs t c b a h
happened_signs t d (what.Act (Disburse c line)) b s a h = record { upb_low = h.upb_low; upb_high = h.upb_high; next_low = h.next_low; next_high = h.next_high; suspense = h.suspense; late_owed = h.late_owed; interest = h.interest; fee = h.fee; principal = h.principal; curtailed = h.curtailed; late_paid = h.late_paid; plan = h.plan; earlier = h.earlier }
happened_signs t d (what.Act (Refund c)) b s a h = refunded_signs t c b a h
happened_signs t d (what.Act (Waive c)) b s a h = waived_signs t c b a h
happened_signs t d (what.Act (Analyse x)) b s a h = analysed_signs t x b a.2 h

pub happened_total : (t : Terms) (d : ℕ) (w : What) (b : Books) → IsSound t → IsWhat w → HaveSigns t b → total (happened t d w b) +ℤ paid_out_by w ≡ total b +ℤ brought_by w
happened_total t d what.MonthMark b s a h = refl
happened_total t d (what.LateMark k) b s a h = omega (arith, ints, charged_total t k b)
happened_total t d (what.Act (Pay c to)) b s a h = omega (arith, ints, paid_total t d c to b s a h)
happened_total t d (what.Act (Curtail c)) b s a h = omega (arith, ints, curtailed_total c b)
happened_total t d (what.Act (Payoff c)) b s a h = omega (arith, ints, payoff_tried_total t d (paid_in c b), paid_in_total c b)
happened_total t d (what.Act (Deposit c)) b s a h = omega (arith, ints, deposited_total c b)
happened_total t d (what.Act (Disburse c line)) b s a h = omega (arith, ints)
happened_total t d (what.Act (Refund c)) b s a h = omega (arith, ints, refunded_total c b)
happened_total t d (what.Act (Waive c)) b s a h = omega (arith, ints)
happened_total t d (what.Act (Analyse x)) b s a h = omega (arith, ints, analysed_total x b)

-- a loan that is marked as satisfied has no balance after an event either
pub happened_stays : (t : Terms) (d : ℕ) (w : What) (b : Books) → IsSound t → IsWhat w → HaveSigns t b → StaysPaid b → StaysPaid (happened t d w b)
happened_stays t d what.MonthMark b s a h p = p
happened_stays t d (what.LateMark k) b s a h p = falls_stays b (charged t k b) p (charged_falls t k b)
happened_stays t d (what.Act (Pay c to)) b s a h p = paid_stays t d c to b s a h p
happened_stays t d (what.Act (Curtail c)) b s a h p = falls_stays b (curtailed c b) p (curtailed_falls c b a h.upb_low)
happened_stays t d (what.Act (Payoff c)) b s a h p = falls_stays (paid_in c b) (payoff_tried t d (paid_in c b)) p (payoff_tried_falls t d (paid_in c b) h.upb_low)
happened_stays t d (what.Act (Deposit c)) b s a h p = falls_stays b (deposited c b) p (deposited_falls c b)
happened_stays t d (what.Act (Disburse c line)) b s a h p = p
happened_stays t d (what.Act (Refund c)) b s a h p = falls_stays b (refunded c b) p (refunded_falls c b)
happened_stays t d (what.Act (Waive c)) b s a h p = p
happened_stays t d (what.Act (Analyse x)) b s a h p = falls_stays b (analysed x b) p (analysed_falls x b)
