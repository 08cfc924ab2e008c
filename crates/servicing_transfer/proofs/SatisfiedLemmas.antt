-- A loan is satisfied on its boarded day at the earliest.
use Rattle.std.proofs.Common.{◌≡◌, ℕ, zero, suc, ◌+◌, ◌-◌, ◌≤◌, true, false, List, [], ◌∷◌, map, arith, refl, sym, subst, ◌∙◌}
use Rattle.std.specs.Prelude.{ℤ, pos, ◌+ℤ◌, ◌&&◌, not, int_lt, int_le, nat_le, is_none, Some, IfSome, if◌then◌else◌}
use Rattle.std.specs.Int.{int_min}
use Rattle.std.specs.List.{All}
use Rattle.std.proofs.lemmas.List.Elements.{All-head, All-tail, All-map, All-filter}
use Rattle.svc_base.specs.Calendar.{month_of}
use Rattle.svc_base.specs.Money.{share_bp}
use Rattle.svc_types.specs.declared.terms.Terms.{Terms}
use Rattle.svc_types.specs.declared.books.Books.{Books}
use Rattle.svc_types.specs.declared.account.Entry.{Entry}
use Rattle.svc_types.specs.declared.account.Designation.{Designation}
use Rattle.svc_types.specs.declared.account.Designation.TheVariants.{Regular, Principal, Escrow}
use Rattle.svc_types.specs.declared.account.Act.TheVariants.{Pay, Curtail, Payoff, Deposit, Disburse, Refund, Waive, Analyse}
use Rattle.svc_types.specs.declared.account.Event.{Event}
use Rattle.svc_types.specs.declared.account.What.{What}
use Rattle.svc_types.specs.declared.account.What.TheVariants as what
use Rattle.svc_types.specs.Terms.{IsSound}
use Rattle.svc_types.proofs.OrderLemmas.{live_all}
use Rattle.svc_spec.specs.Installments.{due_day}
use Rattle.svc_spec.specs.Settling.{moved, moved_one, moves, late_paid, late_taken, is_overdue, marked, settled_by}
use Rattle.svc_spec.specs.Payoff.{payoff_sum}
use Rattle.svc_spec.specs.Step.{paid_in, charged, to_principal, to_escrow, applied, rest_applied, paid, curtailed, paid_off, payoff_tried, deposited, refunded, analysed, happened, step}
use Rattle.svc_spec.specs.Books.{start}
use Rattle.svc_spec.specs.Events.{late_marks_from, late_day, event_of, events_to, folded, books_at}
use Rattle.svc_spec.specs.Accounts.{Account, live_of, books_of, IsAccount}
use Rattle.svc_spec.proofs.EventLemmas.{months_since, lates_since, events_all}

-- the mark, where there is one, is of that day or a later one
abbrev pub IsMarkedSince : ℕ → Books → Type 0
IsMarkedSince low b = IfSome b.satisfied (λ s. low ≤ s)

same_mark : (low : ℕ) (a b : Books) → b.satisfied ≡ a.satisfied → IsMarkedSince low a → IsMarkedSince low b
same_mark low a b e h = subst (λ o. IfSome o (λ s. low ≤ s)) (sym e) h

marked_since : (low d : ℕ) (b : Books) → low ≤ d → IsMarkedSince low b → IsMarkedSince low (marked d b)
unfolding marked
marked_since low d b le h = elim (int_le b.upb (pos 0) && is_none b.satisfied) as (λ v. IsMarkedSince low (if v then record b { satisfied = Some d } else b)) [
  | true ↦ le
  | false ↦ h
]

moved_same : (t : Terms) (j : ℕ) (b : Books) → (moved t j b).satisfied ≡ b.satisfied
unfolding moved moved_one
moved_same t zero b = refl
moved_same t (suc j) b = moved_same t j (moved_one t b)

late_same : (t : Terms) (d : ℕ) (b : Books) → (late_taken t d b).satisfied ≡ b.satisfied
unfolding late_taken
late_same t d b = elim (is_overdue t d b) as (λ v. (if v then b else late_paid b).satisfied ≡ b.satisfied) [ true ↦ refl | false ↦ refl ]

settled_since : (low : ℕ) (t : Terms) (by d : ℕ) (b : Books) → low ≤ d → IsMarkedSince low b → IsMarkedSince low (settled_by t by d b)
unfolding settled_by
settled_since low t by d b le h =
    let after_moves = moved t (moves t by b) b in
    marked_since low d (late_taken t d after_moves) le (same_mark low b (late_taken t d after_moves) (late_same t d after_moves ∙ moved_same t (moves t by b) b) h)

charged_same : (t : Terms) (k : ℕ) (b : Books) → (charged t k b).satisfied ≡ b.satisfied
unfolding charged
charged_same t k b = elim (int_lt (pos 0) b.upb && nat_le b.next k) as (λ v. (if v then record b { late_owed = b.late_owed +ℤ share_bp t.pi t.late } else b).satisfied ≡ b.satisfied) [ true ↦ refl | false ↦ refl ]

principal_same : (x : ℤ) (b : Books) → (to_principal x b).satisfied ≡ b.satisfied
unfolding to_principal
principal_same x b = refl

applied_same : (to : Designation) (x : ℤ) (b : Books) → (applied to x b).satisfied ≡ b.satisfied
unfolding to_escrow
applied_same Regular x b = refl
applied_same Principal x b = principal_same x b
applied_same Escrow x b = refl

rest_same : (t : Terms) (d : ℕ) (c : ℤ) (to : Designation) (b : Books) → (rest_applied t d c to b).satisfied ≡ b.satisfied
unfolding rest_applied
rest_same t d c to b = elim (int_lt (pos 0) b.upb && not (is_overdue t d b)) as (λ v. (if v then applied to (int_min c b.suspense) b else b).satisfied ≡ b.satisfied) [ true ↦ applied_same to (int_min c b.suspense) b | false ↦ refl ]

rest_since : (low : ℕ) (t : Terms) (d : ℕ) (c : ℤ) (to : Designation) (b : Books) → low ≤ d → IsMarkedSince low b → IsMarkedSince low (rest_applied t d c to (settled_by t (month_of d) d (paid_in c b)))
rest_since low t d c to b le h = same_mark low (settled_by t (month_of d) d (paid_in c b)) (rest_applied t d c to (settled_by t (month_of d) d (paid_in c b))) (rest_same t d c to (settled_by t (month_of d) d (paid_in c b))) (settled_since low t (month_of d) d (paid_in c b) le h)

paid_since : (low : ℕ) (t : Terms) (d : ℕ) (c : ℤ) (to : Designation) (b : Books) → low ≤ d → IsMarkedSince low b → IsMarkedSince low (paid t d c to b)
paid_since low t d c Regular b le h = h
paid_since low t d c Principal b le h = rest_since low t d c Principal b le h
paid_since low t d c Escrow b le h = rest_since low t d c Escrow b le h

tried_same : (t : Terms) (d : ℕ) (b : Books) → (payoff_tried t d b).satisfied ≡ b.satisfied
unfolding payoff_tried paid_off
tried_same t d b = elim (int_lt (pos 0) b.upb && int_le (payoff_sum t d b) b.suspense) as (λ v. (if v then paid_off t d b else b).satisfied ≡ b.satisfied) [ true ↦ refl | false ↦ refl ]

deposited_same : (c : ℤ) (b : Books) → (deposited c b).satisfied ≡ b.satisfied
unfolding deposited
deposited_same c b = elim (int_lt (pos 0) b.upb) as (λ v. (if v then record b { escrow = b.escrow +ℤ c } else record b { suspense = b.suspense +ℤ c }).satisfied ≡ b.satisfied) [ true ↦ refl | false ↦ refl ]

happened_since : (low : ℕ) (t : Terms) (d : ℕ) (w : What) (b : Books) → low ≤ d → IsMarkedSince low b → IsMarkedSince low (happened t d w b)
unfolding refunded analysed
happened_since low t d what.MonthMark b le h = h
happened_since low t d (what.LateMark k) b le h = same_mark low b (charged t k b) (charged_same t k b) h
happened_since low t d (what.Act (Pay c to)) b le h = paid_since low t d c to b le h
happened_since low t d (what.Act (Curtail c)) b le h = same_mark low b (curtailed c b) (principal_same c (paid_in c b)) h
happened_since low t d (what.Act (Payoff c)) b le h = same_mark low b (payoff_tried t d (paid_in c b)) (tried_same t d (paid_in c b)) h
happened_since low t d (what.Act (Deposit c)) b le h = same_mark low b (deposited c b) (deposited_same c b) h
happened_since low t d (what.Act (Disburse c line)) b le h = h
happened_since low t d (what.Act (Refund c)) b le h = h
happened_since low t d (what.Act (Waive c)) b le h = h
happened_since low t d (what.Act (Analyse x)) b le h = h

step_since : (low : ℕ) (t : Terms) (e : Event) (b : Books) → low ≤ e.day → IsMarkedSince low b → IsMarkedSince low (step t e b)
unfolding step
step_since low t e b le h = settled_since low t (month_of e.day + 1) e.day (marked e.day (happened t e.day e.what b)) le (marked_since low e.day (happened t e.day e.what b) le (happened_since low t e.day e.what b le h))

folded_since : (low : ℕ) (t : Terms) (b : Books) (es : List Event) → All (λ (e : Event). low ≤ e.day) es → IsMarkedSince low b → IsMarkedSince low (folded t b es)
folded_since low t b [] all h = h
folded_since low t b (e ∷ es) all h = folded_since low t (step t e b) es (All-tail (λ (x : Event). low ≤ x.day) e es all) (step_since low t e b (All-head (λ (x : Event). low ≤ x.day) e es all) h)

start_since : (t : Terms) → IsMarkedSince t.boarded (start t)
unfolding start
start_since t = tt

events_since : (t : Terms) (live : List Entry) (d : ℕ) → IsSound t → All (λ (e : Entry). t.boarded ≤ e.day) live → All (λ (e : Event). t.boarded ≤ e.day) (events_to t live d)
events_since t live d s since =
    let P : Event → Type 0 = λ x. t.boarded ≤ x.day in
    let first = s.first_low in
    let due : t.boarded ≤ due_day t 1 = omega arith in
    let late : t.boarded ≤ late_day t 1 = omega (arith, Rattle.svc_base.proofs.CalendarLemmas.day_after_least (due_day t 1) (t.grace + 1)) in
    events_all P t live d
    (months_since (month_of t.boarded + 1) (month_of d - month_of t.boarded) t.boarded (omega arith))
    (All-filter (λ e. nat_le e.day d) P (late_marks_from t 1 t.term) (lates_since t 1 t.term t.boarded s (omega arith) late))
    (All-filter (λ e. nat_le e.day d) P (map event_of live) (All-map P event_of live since))

pub satisfied_since : (a : Account) (d : ℕ) → IsAccount a → IsMarkedSince a.terms.boarded (books_of a d)
unfolding books_at
satisfied_since a d h =
    folded_since a.terms.boarded a.terms (start a.terms) (events_to a.terms (live_of a) d)
    (events_since a.terms (live_of a) d h.terms (live_all (λ (e : Entry). a.terms.boarded ≤ e.day) a.entries a.reversals h.since))
    (start_since a.terms)
