-- Which plans the books of an account have, and what the principal collected is.
use Rattle.std.proofs.Common.{◌≡◌, ℕ, zero, suc, ◌+◌, ◌-◌, true, false, List, [], ◌∷◌, get_or, map, arith, refl, sym, ap, subst, ◌∙◌, inl, inr}
use Rattle.std.specs.Prelude.{◌==◌, ◌&&◌, not, nat_le, ℤ, pos, ◌+ℤ◌, int_lt, int_le, is_some, is_none, Option, Some, None, MatchOption, if◌then◌else◌}
use Rattle.std.specs.Option.{unwrap_or}
use Rattle.std.specs.Int.{int_min}
use Rattle.std.specs.List.{All, Contains}
use Rattle.std.proofs.lemmas.Int.{ints}
use Rattle.std.proofs.lemmas.List.Elements.{All-cons, All-head, All-tail, All-map, All-filter, Contains-get_or}
use Rattle.svc_base.specs.Calendar.{month_of}
use Rattle.svc_base.specs.Money.{share_bp}
use Rattle.svc_types.specs.declared.terms.Terms.{Terms}
use Rattle.svc_types.specs.declared.escrow.EscrowPlan.{EscrowPlan}
use Rattle.svc_types.specs.declared.escrow.Settled.{Settled}
use Rattle.svc_types.specs.declared.books.Books.{Books}
use Rattle.svc_types.specs.declared.account.Designation.{Designation}
use Rattle.svc_types.specs.declared.account.Designation.TheVariants.{Regular, Principal, Escrow}
use Rattle.svc_types.specs.declared.account.Act.TheVariants.{Pay, Curtail, Payoff, Deposit, Disburse, Refund, Waive, Analyse}
use Rattle.svc_types.specs.declared.account.Entry.{Entry}
use Rattle.svc_types.specs.declared.account.Event.{Event}
use Rattle.svc_types.specs.declared.account.What.{What}
use Rattle.svc_types.specs.declared.account.What.TheVariants as what
use Rattle.svc_spec.specs.Settling.{moves, moved_one, moved, late_paid, late_taken, is_overdue, marked, settled_by}
use Rattle.svc_spec.specs.Payoff.{payoff_sum}
use Rattle.svc_spec.specs.Step.{paid_in, charged, to_principal, to_escrow, applied, rest_applied, paid, paid_off, payoff_tried, deposited, from_suspense, refunded, analysed, happened, step}
use Rattle.svc_spec.specs.Books.{start, boarding_plan}
use Rattle.svc_spec.specs.Events.{month_marks_from, month_mark, late_marks_from, late_mark, event_of, events_to, folded, books_at}
use Rattle.svc_spec.proofs.EventLemmas.{events_all}
use Rattle.svc_spec.specs.Accounts.{Account, IsAccount, entry_of, live_of, books_of}
use Rattle.svc_spec.proofs.FindLemmas.{find_there}
use Rattle.svc_types.proofs.OrderLemmas.{live_all}
use Rattle.svc_checkpoint.specs.Plans.{plan_of, plan_by, IsSettledIn, IsSettledBy, IsPlanOf, Names}

-- ---- what has the same plans, and moves the balance into principal alone

record IsAlike (b b' : Books) : Type 0 where
  pub plan : b'.plan ≡ b.plan
  pub earlier : b'.earlier ≡ b.earlier
  pub principal : b'.principal +ℤ b'.upb ≡ b.principal +ℤ b.upb

alike : (b : Books) → IsAlike b b
alike b = record { plan = refl; earlier = refl; principal = refl }

then_alike : (a b c : Books) → IsAlike a b → IsAlike b c → IsAlike a c
then_alike a b c first last = record {
  plan = last.plan ∙ first.plan;
  earlier = last.earlier ∙ first.earlier;
  principal = last.principal ∙ first.principal;
}

-- ---- settling

moved_one_alike : (t : Terms) (b : Books) → IsAlike b (moved_one t b)
unfolding moved_one
moved_one_alike t b = record { plan = refl; earlier = refl; principal = omega (arith, ints) }

moved_alike : (t : Terms) (n : ℕ) (b : Books) → IsAlike b (moved t n b)
unfolding moved
moved_alike t zero b = alike b
moved_alike t (suc n) b = then_alike b (moved_one t b) (moved t n (moved_one t b)) (moved_one_alike t b) (moved_alike t n (moved_one t b))

late_taken_alike : (t : Terms) (d : ℕ) (b : Books) → IsAlike b (late_taken t d b)
unfolding late_taken
late_taken_alike t d b = elim (is_overdue t d b) as (λ v. IsAlike b (if v then b else late_paid b)) [ true ↦ alike b | false ↦ record { plan = refl; earlier = refl; principal = refl } ]

marked_alike : (d : ℕ) (b : Books) → IsAlike b (marked d b)
unfolding marked
marked_alike d b = elim (int_le b.upb (pos 0) && is_none b.satisfied) as (λ v. IsAlike b (if v then record b { satisfied = Some d } else b)) [ true ↦ record { plan = refl; earlier = refl; principal = refl } | false ↦ alike b ]

settled_alike : (t : Terms) (by d : ℕ) (b : Books) → IsAlike b (settled_by t by d b)
unfolding settled_by
settled_alike t by d b =
    let paid = moved t (moves t by b) b in
    let late = late_taken t d paid in
    then_alike b paid (marked d late) (moved_alike t (moves t by b) b) (then_alike paid late (marked d late) (late_taken_alike t d paid) (marked_alike d late))

-- ---- marks and acts but for an analysis

charged_alike : (t : Terms) (k : ℕ) (b : Books) → IsAlike b (charged t k b)
unfolding charged
charged_alike t k b = elim (int_lt (pos 0) b.upb && nat_le b.next k) as (λ v. IsAlike b (if v then record b { late_owed = b.late_owed +ℤ share_bp t.pi t.late } else b)) [ true ↦ record { plan = refl; earlier = refl; principal = refl } | false ↦ alike b ]

to_principal_alike : (c : ℤ) (b : Books) → IsAlike b (to_principal c b)
unfolding to_principal
to_principal_alike c b = record { plan = refl; earlier = refl; principal = omega (arith, ints) }

applied_alike : (to : Designation) (c : ℤ) (b : Books) → IsAlike b (applied to c b)
unfolding to_escrow
applied_alike Regular c b = alike b
applied_alike Principal c b = to_principal_alike c b
applied_alike Escrow c b = record { plan = refl; earlier = refl; principal = refl }

rest_applied_alike : (t : Terms) (d : ℕ) (c : ℤ) (to : Designation) (b : Books) → IsAlike b (rest_applied t d c to b)
unfolding rest_applied
rest_applied_alike t d c to b = elim (int_lt (pos 0) b.upb && not (is_overdue t d b)) as (λ v. IsAlike b (if v then applied to (int_min c b.suspense) b else b)) [ true ↦ applied_alike to (int_min c b.suspense) b | false ↦ alike b ]

paid_in_alike : (c : ℤ) (b : Books) → IsAlike b (paid_in c b)
paid_in_alike c b = record { plan = refl; earlier = refl; principal = refl }

designated_alike : (t : Terms) (d : ℕ) (c : ℤ) (to : Designation) (b : Books) → IsAlike b (rest_applied t d c to (settled_by t (month_of d) d (paid_in c b)))
designated_alike t d c to b =
    let in_suspense = paid_in c b in
    let due = settled_by t (month_of d) d in_suspense in
    then_alike b in_suspense (rest_applied t d c to due) (paid_in_alike c b) (then_alike in_suspense due (rest_applied t d c to due) (settled_alike t (month_of d) d in_suspense) (rest_applied_alike t d c to due))

paid_alike : (t : Terms) (d : ℕ) (c : ℤ) (to : Designation) (b : Books) → IsAlike b (paid t d c to b)
paid_alike t d c Regular b = paid_in_alike c b
paid_alike t d c Principal b = designated_alike t d c Principal b
paid_alike t d c Escrow b = designated_alike t d c Escrow b

payoff_alike : (t : Terms) (d : ℕ) (b : Books) → IsAlike b (payoff_tried t d b)
unfolding payoff_tried paid_off
payoff_alike t d b = elim (int_lt (pos 0) b.upb && int_le (payoff_sum t d b) b.suspense) as (λ v. IsAlike b (if v then paid_off t d b else b)) [ true ↦ record { plan = refl; earlier = refl; principal = omega (arith, ints) } | false ↦ alike b ]

deposited_alike : (c : ℤ) (b : Books) → IsAlike b (deposited c b)
unfolding deposited
deposited_alike c b = elim (int_lt (pos 0) b.upb) as (λ v. IsAlike b (if v then record b { escrow = b.escrow +ℤ c } else record b { suspense = b.suspense +ℤ c })) [ true ↦ record { plan = refl; earlier = refl; principal = refl } | false ↦ record { plan = refl; earlier = refl; principal = refl } ]

-- ---- a whole step

-- books of terms whose plans are that of boarding or of some entries, and that have collected what their balance fell by
pub record AreKnown (t : Terms) (entries : List Entry) (b : Books) : Type 0 where
  pub plan : IsPlanOf t entries b.plan
  pub earlier : IsPlanOf t entries b.earlier
  pub principal : b.principal +ℤ b.upb ≡ t.principal

alike_known : (t : Terms) (es : List Entry) (b b' : Books) → IsAlike b b' → AreKnown t es b → AreKnown t es b'
alike_known t es b b' same h = record {
  plan = rw same.plan h.plan;
  earlier = rw same.earlier h.earlier;
  principal = same.principal ∙ h.principal;
}

-- what an event does is an act of some entries, or a mark
abbrev IsOf : Terms → List Entry → What → Type 0
IsOf t es what.MonthMark = Unit {0}
IsOf t es (what.LateMark k) = Unit {0}
IsOf t es (what.Act a) = (p : EscrowPlan) → plan_of a ≡ Some p → IsPlanOf t es p

analysed_known : (t : Terms) (es : List Entry) (s : Settled) (b : Books) → IsPlanOf t es s.plan → AreKnown t es b → AreKnown t es (analysed s b)
unfolding analysed
analysed_known t es s b known h = record {
  plan = known;
  earlier = elim (s.plan.start == b.plan.start) as (λ v. IsPlanOf t es (if v then b.earlier else b.plan)) [ true ↦ h.earlier | false ↦ h.plan ];
  principal = h.principal;
}

happened_known : (t : Terms) (es : List Entry) (d : ℕ) (w : What) (b : Books) → IsOf t es w → AreKnown t es b → AreKnown t es (happened t d w b)
unfolding refunded from_suspense
happened_known t es d what.MonthMark b of h = h
happened_known t es d (what.LateMark k) b of h = alike_known t es b (charged t k b) (charged_alike t k b) h
happened_known t es d (what.Act (Pay c to)) b of h = alike_known t es b (paid t d c to b) (paid_alike t d c to b) h
happened_known t es d (what.Act (Curtail c)) b of h = alike_known t es b (to_principal c (paid_in c b)) (then_alike b (paid_in c b) (to_principal c (paid_in c b)) (paid_in_alike c b) (to_principal_alike c (paid_in c b))) h
happened_known t es d (what.Act (Payoff c)) b of h = alike_known t es b (payoff_tried t d (paid_in c b)) (then_alike b (paid_in c b) (payoff_tried t d (paid_in c b)) (paid_in_alike c b) (payoff_alike t d (paid_in c b))) h
happened_known t es d (what.Act (Deposit c)) b of h = alike_known t es b (deposited c b) (deposited_alike c b) h
happened_known t es d (what.Act (Disburse c line)) b of h = record { plan = h.plan; earlier = h.earlier; principal = h.principal }
happened_known t es d (what.Act (Refund c)) b of h = record { plan = h.plan; earlier = h.earlier; principal = h.principal }
happened_known t es d (what.Act (Waive c)) b of h = record { plan = h.plan; earlier = h.earlier; principal = h.principal }
happened_known t es d (what.Act (Analyse s)) b of h = analysed_known t es s b (of s.plan refl) h

step_known : (t : Terms) (es : List Entry) (e : Event) (b : Books) → IsOf t es e.what → AreKnown t es b → AreKnown t es (step t e b)
unfolding step
step_known t es e b of h =
    let d = e.day in
    let x = happened t d e.what b in
    let y = settled_by t (month_of d + 1) d (marked d x) in
    let all = alike_known t es x y (then_alike x (marked d x) y (marked_alike d x) (settled_alike t (month_of d + 1) d (marked d x))) (happened_known t es d e.what b of h) in
    record { plan = all.plan; earlier = all.earlier; principal = all.principal }

-- ---- the books of a day

folded_known : (t : Terms) (es : List Entry) (b : Books) (events : List Event) → All (λ e. IsOf t es e.what) events → AreKnown t es b → AreKnown t es (folded t b events)
folded_known t es b [] of h = h
folded_known t es b (e ∷ rest) of h = folded_known t es (step t e b) rest (All-tail (λ x. IsOf t es x.what) e rest of) (step_known t es e b (All-head (λ x. IsOf t es x.what) e rest of) h)

months_of : (t : Terms) (es : List Entry) (m n : ℕ) → All (λ e. IsOf t es e.what) (month_marks_from m n)
months_of t es m zero = λ k d lt. absurd (omega arith)
months_of t es m (suc n) = All-cons (λ e. IsOf t es e.what) (month_mark m) (month_marks_from (m + 1) n) tt (months_of t es (m + 1) n)

lates_of : (t : Terms) (es : List Entry) (k n : ℕ) → All (λ e. IsOf t es e.what) (late_marks_from t k n)
lates_of t es k zero = λ j d lt. absurd (omega arith)
lates_of t es k (suc n) = All-cons (λ e. IsOf t es e.what) (late_mark t k) (late_marks_from t (k + 1) n) tt (lates_of t es (k + 1) n)

entries_of : (t : Terms) (es : List Entry) → All (λ e. IsOf t es (event_of e).what) es
entries_of t es k d lt p is = inr (get_or es k d, Contains-get_or es k d lt, is)

events_of : (t : Terms) (es : List Entry) (d : ℕ) → All (λ e. IsOf t es e.what) (events_to t es d)
events_of t es d =
    let P : Event → Type 0 = λ e. IsOf t es e.what in
    events_all P t es d (months_of t es (month_of t.boarded + 1) (month_of d - month_of t.boarded)) (All-filter (λ e. nat_le e.day d) P (late_marks_from t 1 t.term) (lates_of t es 1 t.term)) (All-filter (λ e. nat_le e.day d) P (map event_of es) (All-map P event_of es (entries_of t es)))

start_known : (t : Terms) (es : List Entry) → AreKnown t es (start t)
unfolding start
start_known t es = record { plan = inl refl; earlier = inl refl; principal = omega (arith, ints) }

books_known : (t : Terms) (es : List Entry) (d : ℕ) → AreKnown t es (books_at t es d)
unfolding books_at
books_known t es d =
    let all = folded_known t es (start t) (events_to t es d) (events_of t es d) (start_known t es) in
    record { plan = all.plan; earlier = all.earlier; principal = all.principal }

-- those of an account
pub account_known : (a : Account) (b : Books) → b ≡ books_of a b.day → AreKnown a.terms (live_of a) b
account_known a b is = subst (AreKnown a.terms (live_of a)) (sym is) (books_known a.terms (live_of a) b.day)

-- ---- the numbers of plans

-- an entry has a number of its own
found : (a : Account) → IsAccount a → All (λ e. entry_of a e.number ≡ Some e) a.entries
found a h k d lt = find_there a.entries (get_or a.entries k d).number k d h.rising lt refl

live_found : (a : Account) (e : Entry) → IsAccount a → Contains (live_of a) e → entry_of a e.number ≡ Some e
live_found a e h there =
    let P : Entry → Type 0 = λ x. entry_of a x.number ≡ Some x in
    subst P there.2 (live_all P a.entries a.reversals (found a h) there.0 e there.1)

named_by : (a : Account) (n : ℕ) (e : Entry) (p : EscrowPlan) → entry_of a n ≡ Some e → plan_of e.act ≡ Some p → Names a (Some n) p
named_by a n e p there settled = record {
  entry = ap is_some there;
  plan = ap (λ o. unwrap_or (plan_by o) (boarding_plan a.terms)) there ∙ ap (λ o. unwrap_or o (boarding_plan a.terms)) settled;
}

-- a plan of the live entries has the number of an entry that settled it; where none did, it is that of boarding
pub names_found : (a : Account) (live : List Entry) (o : Option ℕ) (p : EscrowPlan) → IsAccount a → live ≡ live_of a → IsPlanOf a.terms (live_of a) p → MatchOption o (IsSettledIn live p → ⊥) (λ n. IsSettledBy live n p) → Names a o p
names_found a live None p h same (inl is) found = record { entry = tt; plan = sym is }
names_found a live None p h same (inr settled) found = absurd (found (subst (λ es. IsSettledIn es p) (sym same) settled))
names_found a live (Some n) p h same known found =
    let e = found.0 in
    let there = live_found a e h (subst (λ es. Contains es e) same found.1) in
    named_by a n e p (ap (entry_of a) (sym found.2) ∙ there) found.3
