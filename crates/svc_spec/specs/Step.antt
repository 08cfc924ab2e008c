-- One step of the books: what an event does, and the settling that follows it.
use Rattle.std.specs.Prelude.{ℕ, ◌==◌, ◌&&◌, not, nat_le, ℤ, pos, ◌+ℤ◌, ◌-ℤ◌, int_lt, int_le, if◌then◌else◌}
use Rattle.std.specs.Int.{int_min}
use Rattle.svc_base.specs.Money.{share_bp, day_interest}
use Rattle.svc_types.specs.declared.terms.Terms.{Terms}
use Rattle.svc_types.specs.declared.escrow.EscrowPlan.{EscrowPlan}
use Rattle.svc_types.specs.declared.escrow.Settled.{Settled}
use Rattle.svc_types.specs.declared.books.Books.{Books}
use Rattle.svc_types.specs.declared.account.Designation.{Designation}
use Rattle.svc_types.specs.declared.account.Designation.TheVariants.{Regular, Principal, Escrow}
use Rattle.svc_types.specs.declared.account.Act.{Act}
use Rattle.svc_types.specs.declared.account.Act.TheVariants.{Pay, Curtail, Payoff, Deposit}
use Rattle.svc_types.specs.declared.account.Act.TheVariants.{Disburse, Refund, Waive, Analyse}
use Rattle.svc_types.specs.declared.account.Event.{Event}
use Rattle.svc_types.specs.declared.account.What.{What}
use Rattle.svc_types.specs.declared.account.What.TheVariants as what
use Rattle.svc_spec.specs.Settling.{is_overdue, marked, settled, due_settled}
use Rattle.svc_spec.specs.Payoff.{payoff_days, payoff_sum, escrow_advanced}

-- money that waits to be applied
abbrev pub paid_in : ℤ → Books → Books
paid_in c b = record b { suspense = b.suspense +ℤ c }

-- a late charge for installment k, where it is still open
unfoldable pub charged : Terms → ℕ → Books → Books
charged t k b =
    if int_lt (pos 0) b.upb && nat_le b.next k
    then record b { late_owed = b.late_owed +ℤ share_bp t.pi t.late }
    else b

-- so much of suspense applied to principal ahead of its time, as far as the balance goes
unfoldable pub to_principal : ℤ → Books → Books
to_principal x b = record b {
  suspense = b.suspense -ℤ int_min b.upb x;
  upb = b.upb -ℤ int_min b.upb x;
  principal = b.principal +ℤ int_min b.upb x;
  curtailed = b.curtailed +ℤ int_min b.upb x;
}

-- so much of suspense applied to escrow
unfoldable pub to_escrow : ℤ → Books → Books
to_escrow x b = record b {
  suspense = b.suspense -ℤ x;
  escrow = b.escrow +ℤ x;
}

-- so much of suspense applied as a payment designates it
abbrev pub applied : Designation → ℤ → Books → Books
applied Regular x b = b
applied Principal x b = to_principal x b
applied Escrow x b = to_escrow x b

-- what is left of a designated payment of c is applied where no open installment is due on or
-- before the day and the loan is not satisfied
unfoldable pub rest_applied : Terms → ℕ → ℤ → Designation → Books → Books
rest_applied t day c to b =
    if int_lt (pos 0) b.upb && not (is_overdue t day b) then applied to (int_min c b.suspense) b else b

-- a payment: a regular one waits; after a designated one what is due on or before the day is
-- settled, and then the rest is applied
abbrev pub paid : Terms → ℕ → ℤ → Designation → Books → Books
paid t day c Regular b = paid_in c b
paid t day c Principal b = rest_applied t day c Principal (due_settled t day (paid_in c b))
paid t day c Escrow b = rest_applied t day c Escrow (due_settled t day (paid_in c b))

-- a payment on the principal alone; what exceeds the balance waits
abbrev pub curtailed : ℤ → Books → Books
curtailed c b = to_principal c (paid_in c b)

-- a loan that is paid off from suspense: balance, day interest, late charges and escrow advanced
unfoldable pub paid_off : Terms → ℕ → Books → Books
paid_off t day b = record b {
  suspense = b.suspense -ℤ payoff_sum t day b;
  interest = b.interest +ℤ day_interest b.upb t.rate (payoff_days t day b);
  fee = b.fee +ℤ day_interest b.upb t.fee (payoff_days t day b);
  principal = b.principal +ℤ b.upb;
  upb = pos 0;
  late_paid = b.late_paid +ℤ b.late_owed;
  late_owed = pos 0;
  escrow = b.escrow +ℤ escrow_advanced b;
}

-- a payoff happens where suspense covers it; else its money waits
unfoldable pub payoff_tried : Terms → ℕ → Books → Books
payoff_tried t day b =
    if int_lt (pos 0) b.upb && int_le (payoff_sum t day b) b.suspense then paid_off t day b else b

-- a deposit into escrow; on a satisfied loan it waits
unfoldable pub deposited : ℤ → Books → Books
deposited c b =
    if int_lt (pos 0) b.upb
    then record b { escrow = b.escrow +ℤ c }
    else record b { suspense = b.suspense +ℤ c }

-- what a refund takes from suspense: on a satisfied loan, as far as it goes
unfoldable pub from_suspense : ℤ → Books → ℤ
from_suspense c b = if int_lt (pos 0) b.upb then pos 0 else int_min b.suspense c

-- the rest of it comes from escrow
unfoldable pub refunded : ℤ → Books → Books
refunded c b = record b {
  suspense = b.suspense -ℤ from_suspense c b;
  escrow = b.escrow -ℤ (c -ℤ from_suspense c b);
}

-- late charges that are given up
abbrev pub waived : ℤ → Books → Books
waived c b = record b { late_owed = b.late_owed -ℤ int_min b.late_owed c }

-- the plan that a new one leaves as the earlier one: the newest, or, where both start in the same
-- month, the one before it
abbrev pub plan_before : EscrowPlan → Books → EscrowPlan
plan_before newest b = if newest.start == b.plan.start then b.earlier else b.plan

-- an analysis: its refund leaves escrow, and its plan is the newest
unfoldable pub analysed : Settled → Books → Books
analysed s b = record b {
  escrow = b.escrow -ℤ s.refund;
  plan = s.plan;
  earlier = plan_before s.plan b;
}

-- what an act does on a day
abbrev pub acted : Terms → ℕ → Act → Books → Books
acted t day (Pay c to) b = paid t day c to b
acted t day (Curtail c) b = curtailed c b
acted t day (Payoff c) b = payoff_tried t day (paid_in c b)
acted t day (Deposit c) b = deposited c b
acted t day (Disburse c line) b = record b { escrow = b.escrow -ℤ c }
acted t day (Refund c) b = refunded c b
acted t day (Waive c) b = waived c b
acted t day (Analyse s) b = analysed s b

-- what happens on a day
abbrev pub happened : Terms → ℕ → What → Books → Books
happened t day what.MonthMark b = b
happened t day (what.LateMark k) b = charged t k b
happened t day (what.Act a) b = acted t day a b

-- the books after an event, on the event's day
unfoldable pub step : Terms → Event → Books → Books
step t e b = record (settled t e.day (marked e.day (happened t e.day e.what b))) { day = e.day }

-- what an act brings in
abbrev pub brought : Act → ℤ
brought (Pay c to) = c
brought (Curtail c) = c
brought (Payoff c) = c
brought (Deposit c) = c
brought (Disburse c line) = pos 0
brought (Refund c) = pos 0
brought (Waive c) = pos 0
brought (Analyse s) = pos 0

-- what an act pays out
abbrev pub paid_out : Act → ℤ
paid_out (Pay c to) = pos 0
paid_out (Curtail c) = pos 0
paid_out (Payoff c) = pos 0
paid_out (Deposit c) = pos 0
paid_out (Disburse c line) = c
paid_out (Refund c) = c
paid_out (Waive c) = pos 0
paid_out (Analyse s) = s.refund

-- what an event brings in
abbrev pub brought_by : What → ℤ
brought_by what.MonthMark = pos 0
brought_by (what.LateMark k) = pos 0
brought_by (what.Act a) = brought a

-- what an event pays out
abbrev pub paid_out_by : What → ℤ
paid_out_by what.MonthMark = pos 0
paid_out_by (what.LateMark k) = pos 0
paid_out_by (what.Act a) = paid_out a
