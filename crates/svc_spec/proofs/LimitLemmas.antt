-- How far the sums of the books can have come after some events: all money that they hold was brought
-- in, and escrow is short by no more than was paid out.
use Rattle.std.proofs.Common.{ℕ, ◌+◌, ◌*◌, ◌≤◌, true, false, arith}
use Rattle.std.specs.Prelude.{ℤ, pos, ◌+ℤ◌, ◌-ℤ◌, ◌≤ℤ◌, ◌&&◌, int_lt, int_le, nat_le, is_none, Some, if◌then◌else◌}
use Rattle.std.proofs.lemmas.Int.{ints, clamps}
use Rattle.svc_base.specs.Calendar.{month_of}
use Rattle.svc_base.specs.Money.{share_bp, IsAmount}
use Rattle.svc_base.proofs.MoneyLemmas.{month_interest_low, month_interest_rises, day_interest_rises, share_bp_most}
use Rattle.svc_types.specs.declared.terms.Terms.{Terms}
use Rattle.svc_types.specs.declared.escrow.Settled.{Settled}
use Rattle.svc_types.specs.declared.books.Books.{Books}
use Rattle.svc_types.specs.declared.account.Designation.{Designation}
use Rattle.svc_types.specs.declared.account.Designation.TheVariants.{Regular, Principal, Escrow}
use Rattle.svc_types.specs.declared.account.Act.{Act}
use Rattle.svc_types.specs.declared.account.Act.TheVariants.{Pay, Curtail, Payoff, Deposit, Disburse, Refund, Waive, Analyse}
use Rattle.svc_types.specs.declared.account.Event.{Event}
use Rattle.svc_types.specs.declared.account.What.{What}
use Rattle.svc_types.specs.declared.account.What.TheVariants as what
use Rattle.svc_types.specs.Terms.{IsSound}
use Rattle.svc_spec.specs.Installments.{due_month}
use Rattle.svc_spec.specs.Settling.{moved_one, late_paid, late_taken, is_overdue, marked, settled_by, settled}
use Rattle.svc_spec.specs.Payoff.{payoff_sum, payoff_days}
use Rattle.svc_spec.specs.Step.{paid_in, charged, to_principal, to_escrow, applied, paid, curtailed, paid_off, payoff_tried, deposited, refunded, waived, analysed, happened, step, brought_by, paid_out_by}
use Rattle.svc_spec.specs.Books.{IsEntryAmount, HaveSigns, AreWithin, IsAct, IsWhat, total, start}
use Rattle.svc_spec.proofs.InstallmentLemmas.{IsBalance, principal_part_bounds, escrow_part_bounds}
use Rattle.svc_spec.proofs.SettledLemmas.{settled_keeps, settled_signs}
use Rattle.svc_spec.proofs.ActLemmas.{from_suspense_bounds, paid_in_signs, paid_keeps}
use Rattle.svc_spec.proofs.WholeStep.{with_day, step_total, happened_marked_signs}

-- how much an event can add to a sum, in units of the greatest amount: a month mark adds nothing
abbrev pub weight : What → ℕ
weight what.MonthMark = 0
weight (what.LateMark k) = 1
weight (what.Act a) = 1

-- n units, each the greatest amount that an entry may name
abbrev pub units : ℕ → ℤ
units n = pos (100_000_000_000_000 * n)

-- what the sums of books can have come to after events of n units, beside their total
pub record AreBacked (n : ℕ) (b : Books) : Type 0 where
  pub escrow : pos 0 ≤ℤ (b.escrow +ℤ units n)
  pub fee : b.fee ≤ℤ b.interest
  pub curtailed : b.curtailed ≤ℤ b.principal
  pub late_owed : b.late_owed ≤ℤ units n

-- the same, and the total
pub record AreBounded (n : ℕ) (b : Books) : Type 0 where
  pub backed : AreBacked n b
  pub total : total b ≤ℤ units n

-- ---- what settling does

moved_one_backed : (t : Terms) (n : ℕ) (b : Books) → IsSound t → HaveSigns t b → AreBacked n b → AreBacked n (moved_one t b)
unfolding moved_one
moved_one_backed t n b s signs h =
    let balance : IsBalance t b.upb = record { low = signs.upb_low; high = signs.upb_high } in
    let principal = principal_part_bounds t b.upb b.next s balance in
    let part = escrow_part_bounds b.plan b.earlier (due_month t b.next) signs.plan signs.earlier in
    let low = signs.upb_low in
    let rises = month_interest_rises b.upb b.upb t.fee t.rate low (omega (arith, ints)) s.fee in
    let escrow = h.escrow in
    let fee = h.fee in
    let before = h.curtailed in
    record { escrow = omega (arith, ints); fee = omega (arith, ints); curtailed = omega (arith, ints); late_owed = h.late_owed }

late_taken_backed : (t : Terms) (d n : ℕ) (b : Books) → HaveSigns t b → AreBacked n b → AreBacked n (late_taken t d b)
unfolding late_taken
late_taken_backed t d n b signs h =
    elim (is_overdue t d b) as (λ v. AreBacked n (if v then b else late_paid b)) [
      | true ↦ h
      | false ↦
          let suspense = signs.suspense in
          let before = signs.late_owed in
          let owed = h.late_owed in
          record { escrow = h.escrow; fee = h.fee; curtailed = h.curtailed; late_owed = omega (arith, ints, clamps) }
    ]

marked_backed : (d n : ℕ) (b : Books) → AreBacked n b → AreBacked n (marked d b)
unfolding marked
marked_backed d n b h =
    elim (int_le b.upb (pos 0) && is_none b.satisfied) as (λ v. AreBacked n (if v then record b { satisfied = Some d } else b)) [
      | true ↦ record { escrow = h.escrow; fee = h.fee; curtailed = h.curtailed; late_owed = h.late_owed }
      | false ↦ h
    ]

settled_backed : (t : Terms) (by d n : ℕ) (b : Books) → IsSound t → HaveSigns t b → AreBacked n b → AreBacked n (settled_by t by d b)
settled_backed t by d n b s signs h = settled_keeps t by d (AreBacked n) s (λ x hx c k. moved_one_backed t n x s hx k) (λ x hx k. late_taken_backed t d n x hx k) (λ x k. marked_backed d n x k) b signs h

-- ---- what an act does

paid_in_keeps : (c : ℤ) (n : ℕ) (b : Books) → AreBacked n b → AreBacked n (paid_in c b)
paid_in_keeps c n b h = record { escrow = h.escrow; fee = h.fee; curtailed = h.curtailed; late_owed = h.late_owed }

to_principal_backed : (x : ℤ) (n : ℕ) (b : Books) → AreBacked n b → AreBacked n (to_principal x b)
unfolding to_principal
to_principal_backed x n b h = let part = h.curtailed in record { escrow = h.escrow; fee = h.fee; curtailed = omega (arith, ints); late_owed = h.late_owed }

to_escrow_backed : (x : ℤ) (n : ℕ) (b : Books) → pos 0 ≤ℤ x → AreBacked n b → AreBacked n (to_escrow x b)
unfolding to_escrow
to_escrow_backed x n b low h = let escrow = h.escrow in record { escrow = omega (arith, ints); fee = h.fee; curtailed = h.curtailed; late_owed = h.late_owed }

applied_backed : (to : Designation) (x : ℤ) (n : ℕ) (b : Books) → pos 0 ≤ℤ x → AreBacked n b → AreBacked n (applied to x b)
applied_backed Regular x n b low h = h
applied_backed Principal x n b low h = to_principal_backed x n b h
applied_backed Escrow x n b low h = to_escrow_backed x n b low h

charged_backed : (t : Terms) (k n : ℕ) (b : Books) → IsSound t → AreBacked n b → AreBacked (n + 1) (charged t k b)
unfolding charged
charged_backed t k n b s h =
    let escrow = h.escrow in
    let owed = h.late_owed in
    let low = month_interest_low t.principal t.rate in
    let pi : IsAmount t.pi = let a = s.pi_low in let z = s.pi_high in (omega (arith, ints), omega (arith, ints)) in
    let most = share_bp_most t.pi t.late pi (let late = s.late in omega arith) in
    elim (int_lt (pos 0) b.upb && nat_le b.next k) as (λ v. AreBacked (n + 1) (if v then record b { late_owed = b.late_owed +ℤ share_bp t.pi t.late } else b)) [
      | true ↦ record { escrow = omega (arith, ints); fee = h.fee; curtailed = h.curtailed; late_owed = omega (arith, ints) }
      | false ↦ record { escrow = omega (arith, ints); fee = h.fee; curtailed = h.curtailed; late_owed = omega (arith, ints) }
    ]

paid_off_backed : (t : Terms) (d n : ℕ) (b : Books) → IsSound t → HaveSigns t b → AreBacked n b → AreBacked (n + 1) (paid_off t d b)
unfolding paid_off
paid_off_backed t d n b s signs h =
    let escrow = h.escrow in
    let fee = h.fee in
    let part = h.curtailed in
    let upb = signs.upb_low in
    let rises = day_interest_rises b.upb t.fee t.rate (payoff_days t d b) s.fee in
    record { escrow = omega (arith, ints, clamps); fee = omega (arith, ints); curtailed = omega (arith, ints); late_owed = omega (arith, ints) }

payoff_tried_backed : (t : Terms) (d n : ℕ) (b : Books) → IsSound t → HaveSigns t b → AreBacked n b → AreBacked (n + 1) (payoff_tried t d b)
unfolding payoff_tried
payoff_tried_backed t d n b s signs h =
    let escrow = h.escrow in
    let owed = h.late_owed in
    elim (int_lt (pos 0) b.upb && int_le (payoff_sum t d b) b.suspense) as (λ v. AreBacked (n + 1) (if v then paid_off t d b else b)) [
      | true ↦ paid_off_backed t d n b s signs h
      | false ↦ record { escrow = omega (arith, ints); fee = h.fee; curtailed = h.curtailed; late_owed = omega (arith, ints) }
    ]

deposited_backed : (c : ℤ) (n : ℕ) (b : Books) → IsEntryAmount c → AreBacked n b → AreBacked (n + 1) (deposited c b)
unfolding deposited
deposited_backed c n b a h =
    let c_low = a.low in
    let escrow = h.escrow in
    let owed = h.late_owed in
    elim (int_lt (pos 0) b.upb) as (λ v. AreBacked (n + 1) (if v then record b { escrow = b.escrow +ℤ c } else record b { suspense = b.suspense +ℤ c })) [
      | true ↦ record { escrow = omega (arith, ints); fee = h.fee; curtailed = h.curtailed; late_owed = omega (arith, ints) }
      | false ↦ record { escrow = omega (arith, ints); fee = h.fee; curtailed = h.curtailed; late_owed = omega (arith, ints) }
    ]

refunded_backed : (t : Terms) (c : ℤ) (n : ℕ) (b : Books) → IsEntryAmount c → HaveSigns t b → AreBacked n b → AreBacked (n + 1) (refunded c b)
unfolding refunded
refunded_backed t c n b a signs h =
    let taken = from_suspense_bounds c b a signs.suspense in
    let c_high = a.high in
    let escrow = h.escrow in
    let owed = h.late_owed in
    record { escrow = omega (arith, ints); fee = h.fee; curtailed = h.curtailed; late_owed = omega (arith, ints) }

waived_backed : (t : Terms) (c : ℤ) (n : ℕ) (b : Books) → IsEntryAmount c → HaveSigns t b → AreBacked n b → AreBacked (n + 1) (waived c b)
waived_backed t c n b a signs h =
    let c_low = a.low in
    let before = signs.late_owed in
    let escrow = h.escrow in
    let owed = h.late_owed in
    record { escrow = omega (arith, ints); fee = h.fee; curtailed = h.curtailed; late_owed = omega (arith, ints, clamps) }

analysed_backed : (s : Settled) (n : ℕ) (b : Books) → IsEntryAmount s.refund → AreBacked n b → AreBacked (n + 1) (analysed s b)
unfolding analysed
analysed_backed s n b a h =
    let high = a.high in
    let escrow = h.escrow in
    let owed = h.late_owed in
    record { escrow = omega (arith, ints); fee = h.fee; curtailed = h.curtailed; late_owed = omega (arith, ints) }

disbursed_backed : (c : ℤ) (n : ℕ) (b : Books) → IsEntryAmount c → AreBacked n b → AreBacked (n + 1) (record b { escrow = b.escrow -ℤ c })
disbursed_backed c n b a h =
    let high = a.high in
    let escrow = h.escrow in
    let owed = h.late_owed in
    record { escrow = omega (arith, ints); fee = h.fee; curtailed = h.curtailed; late_owed = omega (arith, ints) }

paid_backed : (t : Terms) (d : ℕ) (c : ℤ) (to : Designation) (n : ℕ) (b : Books) → IsSound t → IsEntryAmount c → HaveSigns t b → AreBacked n b → AreBacked n (paid t d c to b)
paid_backed t d c to n b s a signs h = paid_keeps t d c to b (AreBacked n) s a signs (paid_in_keeps c n b h) (λ x hx k. settled_backed t (month_of d) d n x s hx k) (λ to x y low within hy k. applied_backed to x n y low k)

backed_more : (n : ℕ) (b : Books) → AreBacked n b → AreBacked (n + 1) b
backed_more n b h =
    let escrow = h.escrow in
    let owed = h.late_owed in
    record { escrow = omega (arith, ints); fee = h.fee; curtailed = h.curtailed; late_owed = omega (arith, ints) }

pub happened_backed : (t : Terms) (d : ℕ) (w : What) (n : ℕ) (b : Books) → IsSound t → IsWhat w → HaveSigns t b → AreBacked n b → AreBacked (n + weight w) (happened t d w b)
happened_backed t d what.MonthMark n b s a signs h = let escrow = h.escrow in let owed = h.late_owed in record { escrow = omega (arith, ints); fee = h.fee; curtailed = h.curtailed; late_owed = omega (arith, ints) }
happened_backed t d (what.LateMark k) n b s a signs h = charged_backed t k n b s h
happened_backed t d (what.Act (Pay c to)) n b s a signs h = backed_more n (paid t d c to b) (paid_backed t d c to n b s a signs h)
happened_backed t d (what.Act (Curtail c)) n b s a signs h = backed_more n (curtailed c b) (to_principal_backed c n (paid_in c b) (paid_in_keeps c n b h))
happened_backed t d (what.Act (Payoff c)) n b s a signs h = payoff_tried_backed t d n (paid_in c b) s (paid_in_signs t c b a signs) (paid_in_keeps c n b h)
happened_backed t d (what.Act (Deposit c)) n b s a signs h = deposited_backed c n b a h
happened_backed t d (what.Act (Disburse c line)) n b s a signs h = disbursed_backed c n b a h
happened_backed t d (what.Act (Refund c)) n b s a signs h = refunded_backed t c n b a signs h
happened_backed t d (what.Act (Waive c)) n b s a signs h = waived_backed t c n b a signs h
happened_backed t d (what.Act (Analyse s')) n b s a signs h = analysed_backed s' n b a.0 h

-- ---- a whole step

dated_backed : (d n : ℕ) (b : Books) → AreBacked n b → AreBacked n (record b { day = d })
dated_backed d n b h = record { escrow = h.escrow; fee = h.fee; curtailed = h.curtailed; late_owed = h.late_owed }

step_backed : (t : Terms) (e : Event) (n : ℕ) (b : Books) → IsSound t → IsWhat e.what → HaveSigns t b → AreBacked n b → AreBacked (n + weight e.what) (step t e b)
unfolding step
step_backed t e n b s a signs h =
    let first = happened_backed t e.day e.what n b s a signs h in
    let mark = marked_backed e.day (n + weight e.what) (happened t e.day e.what b) first in
    let last = settled_backed t (month_of e.day + 1) e.day (n + weight e.what) (marked e.day (happened t e.day e.what b)) s (happened_marked_signs t e.day e.what b s a signs) mark in
    dated_backed e.day (n + weight e.what) (settled t e.day (marked e.day (happened t e.day e.what b))) last

pub step_signs : (t : Terms) (e : Event) (b : Books) → IsSound t → IsWhat e.what → HaveSigns t b → HaveSigns t (step t e b)
unfolding step
step_signs t e b s a h = with_day t e.day (settled t e.day (marked e.day (happened t e.day e.what b))) (settled_signs t (month_of e.day + 1) e.day (marked e.day (happened t e.day e.what b)) s (happened_marked_signs t e.day e.what b s a h))

-- what an event brings in is at most its units, and what it pays out is not below 0
pub record IsWeighed (w : What) : Type 0 where
  pub brought : brought_by w ≤ℤ units (weight w)
  pub paid_out : pos 0 ≤ℤ paid_out_by w

act_weighed : (a : Act) → IsAct a → IsWeighed (what.Act a)
act_weighed (Pay c to) h = let high = h.high in record { brought = omega (arith, ints); paid_out = omega (arith, ints) }
act_weighed (Curtail c) h = let high = h.high in record { brought = omega (arith, ints); paid_out = omega (arith, ints) }
act_weighed (Payoff c) h = let high = h.high in record { brought = omega (arith, ints); paid_out = omega (arith, ints) }
act_weighed (Deposit c) h = let high = h.high in record { brought = omega (arith, ints); paid_out = omega (arith, ints) }
act_weighed (Disburse c line) h = let low = h.low in record { brought = omega (arith, ints); paid_out = omega (arith, ints) }
act_weighed (Refund c) h = let low = h.low in record { brought = omega (arith, ints); paid_out = omega (arith, ints) }
act_weighed (Waive c) h = record { brought = omega (arith, ints); paid_out = omega (arith, ints) }
act_weighed (Analyse s) h = let low = h.0.low in record { brought = omega (arith, ints); paid_out = omega (arith, ints) }

pub weighed : (w : What) → IsWhat w → IsWeighed w
weighed what.MonthMark a = record { brought = omega (arith, ints); paid_out = omega (arith, ints) }
weighed (what.LateMark k) a = record { brought = omega (arith, ints); paid_out = omega (arith, ints) }
weighed (what.Act a) h = act_weighed a h

-- the units of an event are all that it can add
pub step_bounded : (t : Terms) (e : Event) (n : ℕ) (b : Books) → IsSound t → IsWhat e.what → HaveSigns t b → AreBounded n b → AreBounded (n + weight e.what) (step t e b)
step_bounded t e n b s a signs h =
    let w = weighed e.what a in
    let brought = w.brought in
    let out = w.paid_out in
    let before = h.total in
    record {
      backed = step_backed t e n b s a signs h.backed;
      total = omega (arith, ints, step_total t e b s a signs);
    }

-- up to 4,600 units all sums are within the limits
pub bounded_within : (t : Terms) (n : ℕ) (b : Books) → n ≤ 4_600 → HaveSigns t b → AreBounded n b → AreWithin b
bounded_within t n b few signs h =
    let all = h.total in
    let escrow = h.backed.escrow in
    let fee = h.backed.fee in
    let curtailed = h.backed.curtailed in
    let owed = h.backed.late_owed in
    let suspense = signs.suspense in
    let interest = signs.interest in
    let principal = signs.principal in
    let paid = signs.late_paid in
    record {
      escrow_low = omega (arith, ints);
      escrow_high = omega (arith, ints);
      suspense = omega (arith, ints);
      late_owed = omega (arith, ints);
      interest = omega (arith, ints);
      fee = omega (arith, ints);
      principal = omega (arith, ints);
      curtailed = omega (arith, ints);
      late_paid = omega (arith, ints);
    }

pub start_bounded : (t : Terms) → AreBounded 0 (start t)
unfolding start
start_bounded t = record {
  backed = record { escrow = omega (arith, ints); fee = omega (arith, ints); curtailed = omega (arith, ints); late_owed = omega (arith, ints) };
  total = omega (arith, ints);
}
