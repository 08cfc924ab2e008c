-- An escrow balance falls by what is paid out alone, so what a loan's books hold and have collected was
-- received: the limits of every number that custody and reports are made of.
use Rattle.std.proofs.Common.{◌≡◌, ℕ, ◌+◌, ◌≤◌, true, false, List, [], ◌∷◌, arith, refl}
use Rattle.std.specs.Prelude.{ℤ, pos, ◌+ℤ◌, ◌≤ℤ◌, ◌&&◌, int_lt, int_le, nat_le, is_none, Some, if◌then◌else◌}
use Rattle.std.specs.List.{All}
use Rattle.std.proofs.lemmas.Int.{ints, clamps}
use Rattle.std.proofs.lemmas.List.Elements.{All-head}
use Rattle.svc_base.specs.Calendar.{month_of}
use Rattle.svc_base.specs.Money.{share_bp}
use Rattle.svc_types.specs.declared.terms.Terms.{Terms}
use Rattle.svc_types.specs.declared.books.Books.{Books}
use Rattle.svc_types.specs.declared.account.Designation.{Designation}
use Rattle.svc_types.specs.declared.account.Designation.TheVariants.{Regular, Principal, Escrow}
use Rattle.svc_types.specs.declared.account.Act.TheVariants.{Pay, Curtail, Payoff, Deposit, Disburse, Refund, Waive, Analyse}
use Rattle.svc_types.specs.declared.account.Event.{Event}
use Rattle.svc_types.specs.declared.account.What.{What}
use Rattle.svc_types.specs.declared.account.What.TheVariants as what
use Rattle.svc_types.specs.Terms.{IsSound}
use Rattle.svc_types.proofs.OrderLemmas.{live_all}
use Rattle.svc_spec.specs.Installments.{due_month}
use Rattle.svc_spec.specs.Payoff.{payoff_sum}
use Rattle.svc_spec.specs.Settling.{moved_one, late_paid, late_taken, is_overdue, marked, settled_by}
use Rattle.svc_spec.specs.Step.{paid_in, charged, to_principal, to_escrow, applied, paid, paid_off, payoff_tried, deposited, refunded, analysed, happened, step, paid_out_by}
use Rattle.svc_spec.specs.Books.{IsEntryAmount, HaveSigns, IsWhat, start}
use Rattle.svc_spec.specs.Events.{events_to, folded, books_at}
use Rattle.svc_spec.specs.Accounts.{Account, live_of, books_of, IsAccount}
use Rattle.svc_spec.specs.Totals as totals
use Rattle.svc_spec.proofs.InstallmentLemmas.{escrow_part_bounds}
use Rattle.svc_spec.proofs.SettledLemmas.{settled_keeps}
use Rattle.svc_spec.proofs.ActLemmas.{paid_keeps, from_suspense_bounds}
use Rattle.svc_spec.proofs.WholeStep.{happened_marked_signs}
use Rattle.svc_spec.proofs.EventLemmas.{CanFold, can_fold_step}
use Rattle.svc_spec.proofs.AccountLemmas.{account_folds, account_folded}
use Rattle.svc_spec.proofs.TotalLemmas.{tally, tally_events, sum_paid_out}

-- ---- settling takes nothing from escrow

moved_one_escrow : (t : Terms) (x : ℤ) (b : Books) → HaveSigns t b → x ≤ℤ b.escrow → x ≤ℤ (moved_one t b).escrow
unfolding moved_one
moved_one_escrow t x b h low =
    let part = escrow_part_bounds b.plan b.earlier (due_month t b.next) h.plan h.earlier in
    omega (arith, ints, part)

late_taken_escrow : (t : Terms) (d : ℕ) (x : ℤ) (b : Books) → x ≤ℤ b.escrow → x ≤ℤ (late_taken t d b).escrow
unfolding late_taken
late_taken_escrow t d x b low = elim (is_overdue t d b) as (λ v. x ≤ℤ (if v then b else late_paid b).escrow) [ true ↦ low | false ↦ low ]

marked_escrow : (d : ℕ) (x : ℤ) (b : Books) → x ≤ℤ b.escrow → x ≤ℤ (marked d b).escrow
unfolding marked
marked_escrow d x b low =
    elim (int_le b.upb (pos 0) && is_none b.satisfied) as (λ v. x ≤ℤ (if v then record b { satisfied = Some d } else b).escrow) [ true ↦ low | false ↦ low ]

settled_escrow : (t : Terms) (by d : ℕ) (x : ℤ) (b : Books) → IsSound t → HaveSigns t b → x ≤ℤ b.escrow → x ≤ℤ (settled_by t by d b).escrow
settled_escrow t by d x b s signs low =
    settled_keeps t by d (λ y. x ≤ℤ y.escrow) s (λ y hy c k. moved_one_escrow t x y hy k) (λ y hy k. late_taken_escrow t d x y k) (λ y k. marked_escrow d x y k) b signs low

-- ---- an event takes from escrow what it pays out

charged_escrow : (t : Terms) (k : ℕ) (b : Books) → b.escrow ≤ℤ (charged t k b).escrow
unfolding charged
charged_escrow t k b =
    elim (int_lt (pos 0) b.upb && nat_le b.next k) as (λ v. b.escrow ≤ℤ (if v then record b { late_owed = b.late_owed +ℤ share_bp t.pi t.late } else b).escrow) [ true ↦ omega (arith, ints) | false ↦ omega (arith, ints) ]

applied_escrow : (to : Designation) (x : ℤ) (b : Books) → pos 0 ≤ℤ x → b.escrow ≤ℤ (applied to x b).escrow
unfolding to_principal to_escrow
applied_escrow Regular x b low = omega (arith, ints)
applied_escrow Principal x b low = omega (arith, ints)
applied_escrow Escrow x b low = omega (arith, ints)

paid_escrow : (t : Terms) (d : ℕ) (c : ℤ) (to : Designation) (b : Books) → IsSound t → IsEntryAmount c → HaveSigns t b → b.escrow ≤ℤ (paid t d c to b).escrow
paid_escrow t d c to b s a h =
    paid_keeps t d c to b (λ y. b.escrow ≤ℤ y.escrow) s a h (omega (arith, ints)) (λ y hy k. settled_escrow t (month_of d) d b.escrow y s hy k) (λ to x y low within hy k. let one = applied_escrow to x y low in omega (arith, ints))

payoff_tried_escrow : (t : Terms) (d : ℕ) (b : Books) → b.escrow ≤ℤ (payoff_tried t d b).escrow
unfolding payoff_tried paid_off
payoff_tried_escrow t d b =
    elim (int_lt (pos 0) b.upb && int_le (payoff_sum t d b) b.suspense) as (λ v. b.escrow ≤ℤ (if v then paid_off t d b else b).escrow) [
      | true ↦ omega (arith, ints, clamps)
      | false ↦ omega (arith, ints)
    ]

deposited_escrow : (c : ℤ) (b : Books) → IsEntryAmount c → b.escrow ≤ℤ (deposited c b).escrow
unfolding deposited
deposited_escrow c b a =
    let low = a.low in
    elim (int_lt (pos 0) b.upb) as (λ v. b.escrow ≤ℤ (if v then record b { escrow = b.escrow +ℤ c } else record b { suspense = b.suspense +ℤ c }).escrow) [ true ↦ omega (arith, ints) | false ↦ omega (arith, ints) ]

happened_escrow : (t : Terms) (d : ℕ) (w : What) (b : Books) → IsSound t → IsWhat w → HaveSigns t b → b.escrow ≤ℤ ((happened t d w b).escrow +ℤ paid_out_by w)
unfolding refunded analysed to_principal
happened_escrow t d what.MonthMark b s a h = omega (arith, ints)
happened_escrow t d (what.LateMark k) b s a h = omega (arith, ints, charged_escrow t k b)
happened_escrow t d (what.Act (Pay c to)) b s a h = omega (arith, ints, paid_escrow t d c to b s a h)
happened_escrow t d (what.Act (Curtail c)) b s a h = omega (arith, ints)
happened_escrow t d (what.Act (Payoff c)) b s a h = omega (arith, ints, payoff_tried_escrow t d (paid_in c b))
happened_escrow t d (what.Act (Deposit c)) b s a h = omega (arith, ints, deposited_escrow c b a)
happened_escrow t d (what.Act (Disburse c line)) b s a h = omega (arith, ints)
happened_escrow t d (what.Act (Refund c)) b s a h = let taken = from_suspense_bounds c b a h.suspense in omega (arith, ints, taken)
happened_escrow t d (what.Act (Waive c)) b s a h = omega (arith, ints)
happened_escrow t d (what.Act (Analyse x)) b s a h = omega (arith, ints)

step_escrow : (t : Terms) (e : Event) (b : Books) → IsSound t → IsWhat e.what → HaveSigns t b → b.escrow ≤ℤ ((step t e b).escrow +ℤ paid_out_by e.what)
unfolding step
step_escrow t e b s a h =
    let one = happened_escrow t e.day e.what b s a h in
    let x = (happened t e.day e.what b).escrow in
    let all = settled_escrow t (month_of e.day + 1) e.day x (marked e.day (happened t e.day e.what b)) s (happened_marked_signs t e.day e.what b s a h) (marked_escrow e.day x (happened t e.day e.what b) (omega (arith, ints))) in
    omega (arith, ints, one, all)

folded_escrow : (t : Terms) (b : Books) (es : List Event) → IsSound t → CanFold t b es → b.escrow ≤ℤ ((folded t b es).escrow +ℤ tally paid_out_by es)
folded_escrow t b [] s h = omega (arith, ints)
folded_escrow t b (e ∷ es) s h =
    let one = step_escrow t e b s (All-head (λ x. IsWhat x.what) e es h.whats) h.books.signs in
    let rest = folded_escrow t (step t e b) es s (can_fold_step t b e es s h) in
    omega (arith, ints, one, rest)

start_escrow : (t : Terms) → (start t).escrow ≡ pos 0
unfolding start
start_escrow t = refl

-- an escrow balance is not further below 0 than what was refunded and disbursed
pub escrow_floor : (a : Account) → IsAccount a → pos 0 ≤ℤ ((books_of a a.today).escrow +ℤ totals.refunded a +ℤ totals.disbursed a)
unfolding books_at
escrow_floor a h =
    let live = live_of a in
    let d = a.today in
    let can = account_folds a d h in
    let all = folded_escrow a.terms (start a.terms) (events_to a.terms live d) h.terms can in
    let early : All (λ e. e.day ≤ d) live = live_all (λ e. e.day ≤ d) a.entries a.reversals h.until in
    let outward = tally_events paid_out_by refl (λ k. refl) a.terms live d early in
    omega (arith, ints, all, outward, sum_paid_out live, start_escrow a.terms)

-- the fee is a part of the interest, and what was curtailed a part of the principal
pub record AreParts (b : Books) : Type 0 where
  pub fee : b.fee ≤ℤ b.interest
  pub curtailed : b.curtailed ≤ℤ b.principal

pub account_parts : (a : Account) (d : ℕ) → IsAccount a → AreParts (books_of a d)
unfolding books_at
account_parts a d h =
    let can = account_folded a d h in
    record { fee = can.bounded.backed.fee; curtailed = can.bounded.backed.curtailed }
