-- What was collected never falls, so a month's facts are amounts.
use Rattle.std.proofs.Common.{◌≡◌, ℕ, ◌+◌, ◌-◌, ◌≤◌, ◌<◌, true, false, List, [], ◌∷◌, arith, refl, sym, ap, subst, ◌∙◌}
use Rattle.std.specs.Prelude.{ℤ, pos, ◌+ℤ◌, ◌≤ℤ◌, ◌&&◌, int_lt, int_le, nat_le, nat_lt, is_none, Some, if◌then◌else◌}
use Rattle.std.proofs.lemmas.Int.{ints, clamps}
use Rattle.std.proofs.lemmas.List.Elements.{All-head}
use Rattle.std.proofs.lemmas.Bool.Decides.{nat_tests}
use Rattle.svc_base.specs.Calendar.{month_of}
use Rattle.svc_base.specs.DayLemmas.{month_length_most}
use Rattle.svc_base.specs.Money.{share_bp}
use Rattle.svc_base.proofs.MoneyLemmas.{month_interest_low, day_interest_low}
use Rattle.svc_types.specs.declared.terms.Terms.{Terms}
use Rattle.svc_types.specs.declared.books.Books.{Books}
use Rattle.svc_types.specs.declared.account.Designation.{Designation}
use Rattle.svc_types.specs.declared.account.Designation.TheVariants.{Regular, Principal, Escrow}
use Rattle.svc_types.specs.declared.account.Act.TheVariants.{Pay, Curtail, Payoff, Deposit, Disburse, Refund, Waive, Analyse}
use Rattle.svc_types.specs.declared.account.Event.{Event}
use Rattle.svc_types.specs.declared.account.What.{What}
use Rattle.svc_types.specs.declared.account.What.TheVariants as what
use Rattle.svc_types.specs.Terms.{IsSound}
use Rattle.svc_spec.specs.Settling.{moved_one, late_paid, late_taken, is_overdue, marked, settled_by}
use Rattle.svc_spec.specs.Payoff.{payoff_sum, payoff_days}
use Rattle.svc_spec.specs.Step.{paid_in, charged, to_principal, to_escrow, applied, paid, curtailed, paid_off, payoff_tried, deposited, refunded, analysed, happened, step}
use Rattle.svc_spec.specs.Books.{IsEntryAmount, HaveSigns, AreBooks, IsWhat, start}
use Rattle.svc_spec.specs.Events.{events_to, folded, books_at}
use Rattle.svc_spec.specs.Accounts.{Account, live_of, books_of, IsAccount}
use Rattle.svc_spec.specs.Months.{end_day, books_at_end, month_facts, AreFacts}
use Rattle.svc_spec.proofs.SettledLemmas.{settled_keeps}
use Rattle.svc_spec.proofs.ActLemmas.{paid_keeps}
use Rattle.svc_spec.proofs.WholeStep.{happened_marked_signs, start_books}
use Rattle.svc_spec.proofs.EventLemmas.{CanFold, can_fold_step, can_fold_events}
use Rattle.svc_spec.proofs.AccountLemmas.{live_entries_fold, account_few, account_folds, account_books}
use Rattle.svc_spec.proofs.MonthLemmas.{boarded_some, before_boarded, from_boarded}
use Rattle.svc_spec.proofs.TimeLemmas.{past, events_go_on, folded_on}

-- later books have collected at least as much
pub record Rose (b b' : Books) : Type 0 where
  pub curtailed : b.curtailed ≤ℤ b'.curtailed
  pub interest : b.interest ≤ℤ b'.interest
  pub fee : b.fee ≤ℤ b'.fee

stays : (b : Books) → Rose b b
stays b = record { curtailed = omega (arith, ints); interest = omega (arith, ints); fee = omega (arith, ints) }

rose_on : (a b c : Books) → Rose a b → Rose b c → Rose a c
rose_on a b c h g =
    let h1 = h.curtailed in let h2 = h.interest in let h3 = h.fee in
    let g1 = g.curtailed in let g2 = g.interest in let g3 = g.fee in
    record { curtailed = omega (arith, ints); interest = omega (arith, ints); fee = omega (arith, ints) }

-- ---- what settling does

marked_rose : (d : ℕ) (b : Books) → Rose b (marked d b)
unfolding marked
marked_rose d b = elim (int_le b.upb (pos 0) && is_none b.satisfied) as (λ v. Rose b (if v then record b { satisfied = Some d } else b)) [
  | true ↦ record { curtailed = omega (arith, ints); interest = omega (arith, ints); fee = omega (arith, ints) }
  | false ↦ stays b
]

late_taken_rose : (t : Terms) (d : ℕ) (b : Books) → Rose b (late_taken t d b)
unfolding late_taken
late_taken_rose t d b = elim (is_overdue t d b) as (λ v. Rose b (if v then b else late_paid b)) [
  | true ↦ stays b
  | false ↦ record { curtailed = omega (arith, ints); interest = omega (arith, ints); fee = omega (arith, ints) }
]

moved_one_rose : (t : Terms) (b : Books) → Rose b (moved_one t b)
unfolding moved_one
moved_one_rose t b =
    let interest = month_interest_low b.upb t.rate in
    let fee = month_interest_low b.upb t.fee in
    record { curtailed = omega (arith, ints); interest = omega (arith, ints); fee = omega (arith, ints) }

settled_rose : (t : Terms) (by d : ℕ) (a b : Books) → IsSound t → HaveSigns t b → Rose a b → Rose a (settled_by t by d b)
settled_rose t by d a b s signs h = settled_keeps t by d (Rose a) s (λ x hx c k. rose_on a x (moved_one t x) k (moved_one_rose t x)) (λ x hx k. rose_on a x (late_taken t d x) k (late_taken_rose t d x)) (λ x k. rose_on a x (marked d x) k (marked_rose d x)) b signs h

-- ---- what an event does

charged_rose : (t : Terms) (k : ℕ) (b : Books) → Rose b (charged t k b)
unfolding charged
charged_rose t k b = elim (int_lt (pos 0) b.upb && nat_le b.next k) as (λ v. Rose b (if v then record b { late_owed = b.late_owed +ℤ share_bp t.pi t.late } else b)) [
  | true ↦ record { curtailed = omega (arith, ints); interest = omega (arith, ints); fee = omega (arith, ints) }
  | false ↦ stays b
]

to_principal_rose : (x : ℤ) (b : Books) → pos 0 ≤ℤ x → pos 0 ≤ℤ b.upb → Rose b (to_principal x b)
unfolding to_principal
to_principal_rose x b low upb = record { curtailed = omega (arith, ints, clamps); interest = omega (arith, ints); fee = omega (arith, ints) }

applied_rose : (to : Designation) (x : ℤ) (b : Books) → pos 0 ≤ℤ x → pos 0 ≤ℤ b.upb → Rose b (applied to x b)
unfolding to_escrow
applied_rose Regular x b low upb = stays b
applied_rose Principal x b low upb = to_principal_rose x b low upb
applied_rose Escrow x b low upb = record { curtailed = omega (arith, ints); interest = omega (arith, ints); fee = omega (arith, ints) }

paid_off_rose : (t : Terms) (d : ℕ) (b : Books) → Rose b (paid_off t d b)
unfolding paid_off
paid_off_rose t d b =
    let interest = day_interest_low b.upb t.rate (payoff_days t d b) in
    let fee = day_interest_low b.upb t.fee (payoff_days t d b) in
    record { curtailed = omega (arith, ints); interest = omega (arith, ints); fee = omega (arith, ints) }

payoff_tried_rose : (t : Terms) (d : ℕ) (b : Books) → Rose b (payoff_tried t d b)
unfolding payoff_tried
payoff_tried_rose t d b = elim (int_lt (pos 0) b.upb && int_le (payoff_sum t d b) b.suspense) as (λ v. Rose b (if v then paid_off t d b else b)) [ true ↦ paid_off_rose t d b | false ↦ stays b ]

deposited_rose : (c : ℤ) (b : Books) → Rose b (deposited c b)
unfolding deposited
deposited_rose c b = elim (int_lt (pos 0) b.upb) as (λ v. Rose b (if v then record b { escrow = b.escrow +ℤ c } else record b { suspense = b.suspense +ℤ c })) [
  | true ↦ record { curtailed = omega (arith, ints); interest = omega (arith, ints); fee = omega (arith, ints) }
  | false ↦ record { curtailed = omega (arith, ints); interest = omega (arith, ints); fee = omega (arith, ints) }
]

paid_in_rose : (c : ℤ) (b : Books) → Rose b (paid_in c b)
paid_in_rose c b = record { curtailed = omega (arith, ints); interest = omega (arith, ints); fee = omega (arith, ints) }

paid_rose : (t : Terms) (d : ℕ) (c : ℤ) (to : Designation) (b : Books) → IsSound t → IsEntryAmount c → HaveSigns t b → Rose b (paid t d c to b)
paid_rose t d c to b s a h = paid_keeps t d c to b (Rose b) s a h (paid_in_rose c b) (λ x hx k. settled_rose t (month_of d) d b x s hx k) (λ to x y low within hy k. rose_on b y (applied to x y) k (applied_rose to x y low hy.upb_low))

happened_rose : (t : Terms) (d : ℕ) (w : What) (b : Books) → IsSound t → IsWhat w → HaveSigns t b → Rose b (happened t d w b)
unfolding refunded analysed
happened_rose t d what.MonthMark b s a h = stays b
happened_rose t d (what.LateMark k) b s a h = charged_rose t k b
happened_rose t d (what.Act (Pay c to)) b s a h = paid_rose t d c to b s a h
happened_rose t d (what.Act (Curtail c)) b s a h = rose_on b (paid_in c b) (curtailed c b) (paid_in_rose c b) (to_principal_rose c (paid_in c b) a.low h.upb_low)
happened_rose t d (what.Act (Payoff c)) b s a h = rose_on b (paid_in c b) (payoff_tried t d (paid_in c b)) (paid_in_rose c b) (payoff_tried_rose t d (paid_in c b))
happened_rose t d (what.Act (Deposit c)) b s a h = deposited_rose c b
happened_rose t d (what.Act (Disburse c line)) b s a h = record { curtailed = omega (arith, ints); interest = omega (arith, ints); fee = omega (arith, ints) }
happened_rose t d (what.Act (Refund c)) b s a h = record { curtailed = omega (arith, ints); interest = omega (arith, ints); fee = omega (arith, ints) }
happened_rose t d (what.Act (Waive c)) b s a h = record { curtailed = omega (arith, ints); interest = omega (arith, ints); fee = omega (arith, ints) }
happened_rose t d (what.Act (Analyse x)) b s a h = record { curtailed = omega (arith, ints); interest = omega (arith, ints); fee = omega (arith, ints) }

step_rose : (t : Terms) (e : Event) (b : Books) → IsSound t → IsWhat e.what → HaveSigns t b → Rose b (step t e b)
unfolding step
step_rose t e b s a h =
    let first = happened t e.day e.what b in
    let mark = marked e.day first in
    let all = settled_rose t (month_of e.day + 1) e.day b mark s (happened_marked_signs t e.day e.what b s a h) (rose_on b first mark (happened_rose t e.day e.what b s a h) (marked_rose e.day first)) in
    record { curtailed = all.curtailed; interest = all.interest; fee = all.fee }

folded_rose : (t : Terms) (b : Books) (es : List Event) → IsSound t → CanFold t b es → Rose b (folded t b es)
folded_rose t b [] s h = stays b
folded_rose t b (e ∷ es) s h =
    let first = step_rose t e b s (All-head (λ x. IsWhat x.what) e es h.whats) h.books.signs in
    rose_on b (step t e b) (folded t (step t e b) es) first (folded_rose t (step t e b) es s (can_fold_step t b e es s h))

-- ---- the books of an account

pub account_rose_from_start : (a : Account) (d : ℕ) → IsAccount a → Rose (start a.terms) (books_of a d)
unfolding books_at
account_rose_from_start a d h =
    let all = events_to a.terms (live_of a) d in
    let rose = folded_rose a.terms (start a.terms) all h.terms (account_folds a d h) in
    record { curtailed = rose.curtailed; interest = rose.interest; fee = rose.fee }

pub account_rose : (a : Account) (d d' : ℕ) → IsAccount a → d ≤ d' → Rose (books_of a d) (books_of a d')
unfolding books_at
account_rose a d d' h le =
    let t = a.terms in
    let front = events_to t (live_of a) d in
    let back = past d (events_to t (live_of a) d') in
    let split = events_go_on t (live_of a) d d' le in
    let can = can_fold_events t (live_of a) d' front back h.terms (live_entries_fold a h) (account_few a h) split in
    let rose = folded_rose t (folded t (start t) front) back h.terms can in
    let same : folded t (start t) (events_to t (live_of a) d') ≡ folded t (folded t (start t) front) back = ap (folded t (start t)) split ∙ folded_on t (start t) front back in
    let later = subst (Rose (folded t (start t) front)) (sym same) rose in
    record { curtailed = later.curtailed; interest = later.interest; fee = later.fee }

end_rises : (a : Account) (m : ℕ) → 0 < m → end_day a (m - 1) ≤ end_day a m
end_rises a m some = let most = month_length_most (m - 1) in omega arith

month_rose : (a : Account) (m : ℕ) → IsAccount a → month_of a.terms.boarded ≤ m → Rose (books_at_end a (m - 1)) (books_at_end a m)
month_rose a m h le =
    let some = boarded_some a.terms.boarded h.boarded in
    let last = from_boarded a m le in
    elim (nat_lt (m - 1) (month_of a.terms.boarded)) as (λ v. nat_lt (m - 1) (month_of a.terms.boarded) ≡ v → Rose (books_at_end a (m - 1)) (books_at_end a m)) [
      | true ↦ λ e.
          let first = before_boarded a (m - 1) (grind (arith, nat_tests)) in
          rw (first, last) (account_rose_from_start a (end_day a m) h)
      | false ↦ λ e.
          let first = from_boarded a (m - 1) (grind (arith, nat_tests)) in
          rw (first, last) (account_rose a (end_day a (m - 1)) (end_day a m) h (end_rises a m (omega arith)))
    ] refl

end_books : (a : Account) (m : ℕ) → IsAccount a → AreBooks a.terms (books_at_end a m)
end_books a m h =
    elim (nat_lt m (month_of a.terms.boarded)) as (λ v. nat_lt m (month_of a.terms.boarded) ≡ v → AreBooks a.terms (books_at_end a m)) [
      | true ↦ λ e. let first = before_boarded a m (grind (arith, nat_tests)) in rw first (start_books a.terms h.terms)
      | false ↦ λ e. let first = from_boarded a m (grind (arith, nat_tests)) in rw first (account_books a (end_day a m) h)
    ] refl

-- the facts of a month lie within the limits
pub month_within : (a : Account) (m : ℕ) → IsAccount a → month_of a.terms.boarded ≤ m → AreFacts a.terms (month_facts a m)
month_within a m h le =
    let before = end_books a (m - 1) h in
    let after = end_books a m h in
    let rose = month_rose a m h le in
    let r1 = rose.curtailed in let r2 = rose.interest in let r3 = rose.fee in
    let b1 = before.signs.curtailed in let b2 = before.signs.interest in let b3 = before.signs.fee in
    let a1 = after.within.curtailed in let a2 = after.within.interest in let a3 = after.within.fee in
    record {
      upb_low = after.signs.upb_low;
      upb_high = after.signs.upb_high;
      curtailed_low = omega (arith, ints);
      curtailed_high = omega (arith, ints);
      interest_low = omega (arith, ints);
      interest_high = omega (arith, ints);
      fee_low = omega (arith, ints);
      fee_high = omega (arith, ints);
    }
