-- Which installment is open after some events.
use Rattle.std.proofs.Common.{◌≡◌, ℕ, ◌+◌, ◌≤◌, true, false, List, [], ◌∷◌, arith, refl}
use Rattle.std.specs.Prelude.{ℤ, pos, ◌+ℤ◌, ◌&&◌, not, int_lt, int_le, nat_le, if◌then◌else◌}
use Rattle.std.specs.Int.{int_min}
use Rattle.std.proofs.lemmas.List.Elements.{All-head}
use Rattle.svc_base.specs.Calendar.{month_of}
use Rattle.svc_base.specs.Money.{share_bp}
use Rattle.svc_types.specs.declared.terms.Terms.{Terms}
use Rattle.svc_types.specs.declared.escrow.Settled.{Settled}
use Rattle.svc_types.specs.declared.books.Books.{Books}
use Rattle.svc_types.specs.declared.account.Designation.{Designation}
use Rattle.svc_types.specs.declared.account.Designation.TheVariants.{Regular, Principal, Escrow}
use Rattle.svc_types.specs.declared.account.Act.TheVariants.{Pay, Curtail, Payoff, Deposit, Disburse, Refund, Waive, Analyse}
use Rattle.svc_types.specs.declared.account.Event.{Event}
use Rattle.svc_types.specs.declared.account.What.{What}
use Rattle.svc_types.specs.declared.account.What.TheVariants as what
use Rattle.svc_types.specs.Terms.{IsSound}
use Rattle.svc_spec.specs.Settling.{is_overdue, marked, due_settled}
use Rattle.svc_spec.specs.Payoff.{payoff_sum}
use Rattle.svc_spec.specs.Step.{paid_in, charged, to_principal, to_escrow, applied, rest_applied, paid, paid_off, payoff_tried, deposited, refunded, analysed, happened, step}
use Rattle.svc_spec.specs.Books.{IsEntryAmount, HaveSigns, IsWhat, start}
use Rattle.svc_spec.specs.Events.{events_to, folded, books_at}
use Rattle.svc_spec.specs.Accounts.{Account, live_of, books_of, IsAccount}
use Rattle.svc_spec.proofs.SettledLemmas.{Advances, advances_none, marked_next, settled_advances, settled_last}
use Rattle.svc_spec.proofs.ActLemmas.{paid_in_signs}
use Rattle.svc_spec.proofs.WholeStep.{happened_marked_signs}
use Rattle.svc_spec.proofs.EventLemmas.{CanFold, can_fold_step, start_next}
use Rattle.svc_spec.proofs.AccountLemmas.{account_folds}

-- ---- what an event satisfies before settling: what is due, for a designated payment

pub charged_next : (t : Terms) (k : ℕ) (b : Books) → (charged t k b).next ≡ b.next
unfolding charged
charged_next t k b = elim (int_lt (pos 0) b.upb && nat_le b.next k) as (λ v. (let x : Books = if v then record b { late_owed = b.late_owed +ℤ share_bp t.pi t.late } else b in x.next ≡ b.next)) [ true ↦ refl | false ↦ refl ]

pub payoff_tried_next : (t : Terms) (d : ℕ) (b : Books) → (payoff_tried t d b).next ≡ b.next
unfolding payoff_tried paid_off
payoff_tried_next t d b = elim (int_lt (pos 0) b.upb && int_le (payoff_sum t d b) b.suspense) as (λ v. (let x : Books = if v then paid_off t d b else b in x.next ≡ b.next)) [ true ↦ refl | false ↦ refl ]

pub deposited_next : (c : ℤ) (b : Books) → (deposited c b).next ≡ b.next
unfolding deposited
deposited_next c b = elim (int_lt (pos 0) b.upb) as (λ v. (let x : Books = if v then record b { escrow = b.escrow +ℤ c } else record b { suspense = b.suspense +ℤ c } in x.next ≡ b.next)) [ true ↦ refl | false ↦ refl ]

pub to_principal_next : (x : ℤ) (b : Books) → (to_principal x b).next ≡ b.next
unfolding to_principal
to_principal_next x b = refl

pub refunded_next : (c : ℤ) (b : Books) → (refunded c b).next ≡ b.next
unfolding refunded
refunded_next c b = refl

pub analysed_next : (s : Settled) (b : Books) → (analysed s b).next ≡ b.next
unfolding analysed
analysed_next s b = refl

applied_next : (to : Designation) (x : ℤ) (b : Books) → (applied to x b).next ≡ b.next
unfolding to_escrow
applied_next Regular x b = refl
applied_next Principal x b = to_principal_next x b
applied_next Escrow x b = refl

pub rest_applied_next : (t : Terms) (d : ℕ) (c : ℤ) (to : Designation) (b : Books) → (rest_applied t d c to b).next ≡ b.next
unfolding rest_applied
rest_applied_next t d c to b = elim (int_lt (pos 0) b.upb && not (is_overdue t d b)) as (λ v. (let x : Books = if v then applied to (int_min c b.suspense) b else b in x.next ≡ b.next)) [ true ↦ applied_next to (int_min c b.suspense) b | false ↦ refl ]

paid_advances : (t : Terms) (d : ℕ) (c : ℤ) (to : Designation) (b : Books) → Advances t (month_of d) b.next (paid t d c to b).next
paid_advances t d c Regular b = advances_none t (month_of d) b.next
paid_advances t d c Principal b = rw (rest_applied_next t d c Principal (due_settled t d (paid_in c b))) (settled_advances t (month_of d) d (paid_in c b))
paid_advances t d c Escrow b = rw (rest_applied_next t d c Escrow (due_settled t d (paid_in c b))) (settled_advances t (month_of d) d (paid_in c b))

happened_advances : (t : Terms) (d : ℕ) (w : What) (b : Books) → Advances t (month_of d) b.next (happened t d w b).next
happened_advances t d what.MonthMark b = advances_none t (month_of d) b.next
happened_advances t d (what.LateMark k) b = rw (charged_next t k b) (advances_none t (month_of d) b.next)
happened_advances t d (what.Act (Pay c to)) b = paid_advances t d c to b
happened_advances t d (what.Act (Curtail c)) b = rw (to_principal_next c (paid_in c b)) (advances_none t (month_of d) b.next)
happened_advances t d (what.Act (Payoff c)) b = rw (payoff_tried_next t d (paid_in c b)) (advances_none t (month_of d) b.next)
happened_advances t d (what.Act (Deposit c)) b = rw (deposited_next c b) (advances_none t (month_of d) b.next)
happened_advances t d (what.Act (Disburse c line)) b = advances_none t (month_of d) b.next
happened_advances t d (what.Act (Refund c)) b = rw (refunded_next c b) (advances_none t (month_of d) b.next)
happened_advances t d (what.Act (Waive c)) b = advances_none t (month_of d) b.next
happened_advances t d (what.Act (Analyse s)) b = rw (analysed_next s b) (advances_none t (month_of d) b.next)

-- ---- a step satisfies only installments that are due by the first day of the next month

pub step_advances : (t : Terms) (e : Event) (b : Books) → Advances t (month_of e.day + 1) b.next (step t e b).next
unfolding step
step_advances t e b =
    let first = happened t e.day e.what b in
    let before = happened_advances t e.day e.what b in
    let after = settled_advances t (month_of e.day + 1) e.day (marked e.day first) in
    let same = marked_next e.day first in
    let before_low = before.low in
    let before_high = before.high in
    let after_low = after.low in
    let after_high = after.high in
    record { low = omega arith; high = omega arith }

-- ---- the number of the open installment lies from 1 to one more than the term

paid_last : (t : Terms) (d : ℕ) (c : ℤ) (to : Designation) (b : Books) → IsSound t → IsEntryAmount c → HaveSigns t b → b.next ≤ t.term + 1 → (paid t d c to b).next ≤ t.term + 1
paid_last t d c Regular b s a h le = le
paid_last t d c Principal b s a h le = rw (rest_applied_next t d c Principal (due_settled t d (paid_in c b))) (settled_last t (month_of d) d (paid_in c b) s (paid_in_signs t c b a h) le)
paid_last t d c Escrow b s a h le = rw (rest_applied_next t d c Escrow (due_settled t d (paid_in c b))) (settled_last t (month_of d) d (paid_in c b) s (paid_in_signs t c b a h) le)

happened_last : (t : Terms) (d : ℕ) (w : What) (b : Books) → IsSound t → IsWhat w → HaveSigns t b → b.next ≤ t.term + 1 → (happened t d w b).next ≤ t.term + 1
happened_last t d what.MonthMark b s a h le = le
happened_last t d (what.LateMark k) b s a h le = rw (charged_next t k b) le
happened_last t d (what.Act (Pay c to)) b s a h le = paid_last t d c to b s a h le
happened_last t d (what.Act (Curtail c)) b s a h le = rw (to_principal_next c (paid_in c b)) le
happened_last t d (what.Act (Payoff c)) b s a h le = rw (payoff_tried_next t d (paid_in c b)) le
happened_last t d (what.Act (Deposit c)) b s a h le = rw (deposited_next c b) le
happened_last t d (what.Act (Disburse c line)) b s a h le = le
happened_last t d (what.Act (Refund c)) b s a h le = rw (refunded_next c b) le
happened_last t d (what.Act (Waive c)) b s a h le = le
happened_last t d (what.Act (Analyse x)) b s a h le = rw (analysed_next x b) le

step_last : (t : Terms) (e : Event) (b : Books) → IsSound t → IsWhat e.what → HaveSigns t b → b.next ≤ t.term + 1 → (step t e b).next ≤ t.term + 1
unfolding step
step_last t e b s a h le =
    let first = happened t e.day e.what b in
    let before = happened_last t e.day e.what b s a h le in
    settled_last t (month_of e.day + 1) e.day (marked e.day first) s (happened_marked_signs t e.day e.what b s a h) (omega (arith, marked_next e.day first))

folded_last : (t : Terms) (b : Books) (es : List Event) → IsSound t → CanFold t b es → b.next ≤ t.term + 1 → (folded t b es).next ≤ t.term + 1
folded_last t b [] s h le = le
folded_last t b (e ∷ es) s h le =
    let first = step_last t e b s (All-head (λ x. IsWhat x.what) e es h.whats) h.books.signs le in
    folded_last t (step t e b) es s (can_fold_step t b e es s h) first

-- the open installment of an account's books, satisfied or not
pub books_last : (a : Account) (d : ℕ) → IsAccount a → (books_of a d).next ≤ a.terms.term + 1
unfolding books_at
books_last a d h =
    let all = events_to a.terms (live_of a) d in
    folded_last a.terms (start a.terms) all h.terms (account_folds a d h) (omega (arith, start_next a.terms))
