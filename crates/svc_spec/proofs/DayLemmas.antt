-- A step sets the day of the books, and does not look at it.
use Rattle.std.proofs.Common.{◌≡◌, ℕ, zero, suc, ◌+◌, true, false, List, [], ◌∷◌, refl, ap, ◌∙◌}
use Rattle.std.specs.Prelude.{ℤ, pos, ◌+ℤ◌, ◌&&◌, not, int_lt, int_le, nat_le, is_none, Some, if◌then◌else◌}
use Rattle.std.specs.Int.{int_min}
use Rattle.svc_base.specs.Calendar.{month_of}
use Rattle.svc_base.specs.Money.{share_bp}
use Rattle.svc_types.specs.declared.terms.Terms.{Terms}
use Rattle.svc_types.specs.declared.books.Books.{Books}
use Rattle.svc_types.specs.declared.account.Designation.{Designation}
use Rattle.svc_types.specs.declared.account.Designation.TheVariants.{Regular, Principal, Escrow}
use Rattle.svc_types.specs.declared.account.Act.TheVariants.{Pay, Curtail, Payoff, Deposit, Disburse, Refund, Waive, Analyse}
use Rattle.svc_types.specs.declared.account.Event.{Event}
use Rattle.svc_types.specs.declared.account.What.{What}
use Rattle.svc_types.specs.declared.account.What.TheVariants as what
use Rattle.svc_spec.specs.Settling.{moves, moved_one, moved, late_paid, late_taken, is_overdue, marked, settled_by, settled, due_settled}
use Rattle.svc_spec.specs.Payoff.{payoff_sum, payoff_principal}
use Rattle.svc_spec.specs.Step.{paid_in, charged, to_principal, to_escrow, applied, rest_applied, paid, paid_off, payoff_tried, deposited, from_suspense, refunded, analysed, happened, step}
use Rattle.svc_spec.specs.Events.{folded}

-- books that stand for another day
abbrev pub on : ℕ → Books → Books
on d b = record b { day = d }

-- ---- settling

moves_on : (t : Terms) (by d : ℕ) (b : Books) → moves t by (on d b) ≡ moves t by b
unfolding moves
moves_on t by d b = refl

moved_one_on : (t : Terms) (d : ℕ) (b : Books) → moved_one t (on d b) ≡ on d (moved_one t b)
unfolding moved_one
moved_one_on t d b = refl

moved_on : (t : Terms) (n d : ℕ) (b : Books) → moved t n (on d b) ≡ on d (moved t n b)
unfolding moved
moved_on t zero d b = refl
moved_on t (suc n) d b = ap (moved t n) (moved_one_on t d b) ∙ moved_on t n d (moved_one t b)

late_taken_on : (t : Terms) (x d : ℕ) (b : Books) → late_taken t x (on d b) ≡ on d (late_taken t x b)
unfolding late_taken
late_taken_on t x d b = elim (is_overdue t x b) as (λ v. (if v then on d b else late_paid (on d b)) ≡ on d (if v then b else late_paid b)) [ true ↦ refl | false ↦ refl ]

marked_on : (x d : ℕ) (b : Books) → marked x (on d b) ≡ on d (marked x b)
unfolding marked
marked_on x d b = elim (int_le b.upb (pos 0) && is_none b.satisfied) as (λ v. (if v then record b { day = d; satisfied = Some x } else on d b) ≡ on d (if v then record b { satisfied = Some x } else b)) [ true ↦ refl | false ↦ refl ]

settled_on : (t : Terms) (by x d : ℕ) (b : Books) → settled_by t by x (on d b) ≡ on d (settled_by t by x b)
unfolding settled_by
settled_on t by x d b =
    let n = moves t by b in
    ap (λ k. marked x (late_taken t x (moved t k (on d b)))) (moves_on t by d b)
    ∙ ap (λ y. marked x (late_taken t x y)) (moved_on t n d b)
    ∙ ap (marked x) (late_taken_on t x d (moved t n b))
    ∙ marked_on x d (late_taken t x (moved t n b))

-- ---- what an event does

charged_on : (t : Terms) (k d : ℕ) (b : Books) → charged t k (on d b) ≡ on d (charged t k b)
unfolding charged
charged_on t k d b = elim (int_lt (pos 0) b.upb && nat_le b.next k) as (λ v. (if v then record b { day = d; late_owed = b.late_owed +ℤ share_bp t.pi t.late } else on d b) ≡ on d (if v then record b { late_owed = b.late_owed +ℤ share_bp t.pi t.late } else b)) [ true ↦ refl | false ↦ refl ]

payoff_tried_on : (t : Terms) (x d : ℕ) (b : Books) → payoff_tried t x (on d b) ≡ on d (payoff_tried t x b)
unfolding payoff_tried paid_off payoff_sum payoff_principal
payoff_tried_on t x d b = elim (int_lt (pos 0) b.upb && int_le (payoff_sum t x b) b.suspense) as (λ v. (if v then paid_off t x (on d b) else on d b) ≡ on d (if v then paid_off t x b else b)) [ true ↦ refl | false ↦ refl ]

deposited_on : (c : ℤ) (d : ℕ) (b : Books) → deposited c (on d b) ≡ on d (deposited c b)
unfolding deposited
deposited_on c d b = elim (int_lt (pos 0) b.upb) as (λ v. (if v then record b { day = d; escrow = b.escrow +ℤ c } else record b { day = d; suspense = b.suspense +ℤ c }) ≡ on d (if v then record b { escrow = b.escrow +ℤ c } else record b { suspense = b.suspense +ℤ c })) [ true ↦ refl | false ↦ refl ]

to_principal_on : (c : ℤ) (d : ℕ) (b : Books) → to_principal c (on d b) ≡ on d (to_principal c b)
unfolding to_principal
to_principal_on c d b = refl

applied_on : (to : Designation) (c : ℤ) (d : ℕ) (b : Books) → applied to c (on d b) ≡ on d (applied to c b)
unfolding to_escrow
applied_on Regular c d b = refl
applied_on Principal c d b = to_principal_on c d b
applied_on Escrow c d b = refl

rest_applied_on : (t : Terms) (x : ℕ) (c : ℤ) (to : Designation) (d : ℕ) (b : Books) → rest_applied t x c to (on d b) ≡ on d (rest_applied t x c to b)
unfolding rest_applied
rest_applied_on t x c to d b = elim (int_lt (pos 0) b.upb && not (is_overdue t x b)) as (λ v. (if v then applied to (int_min c b.suspense) (on d b) else on d b) ≡ on d (if v then applied to (int_min c b.suspense) b else b)) [ true ↦ applied_on to (int_min c b.suspense) d b | false ↦ refl ]

designated_on : (t : Terms) (x : ℕ) (c : ℤ) (to : Designation) (d : ℕ) (b : Books) → rest_applied t x c to (due_settled t x (paid_in c (on d b))) ≡ on d (rest_applied t x c to (due_settled t x (paid_in c b)))
designated_on t x c to d b = ap (rest_applied t x c to) (settled_on t (month_of x) x d (paid_in c b)) ∙ rest_applied_on t x c to d (due_settled t x (paid_in c b))

paid_on : (t : Terms) (x : ℕ) (c : ℤ) (to : Designation) (d : ℕ) (b : Books) → paid t x c to (on d b) ≡ on d (paid t x c to b)
paid_on t x c Regular d b = refl
paid_on t x c Principal d b = designated_on t x c Principal d b
paid_on t x c Escrow d b = designated_on t x c Escrow d b

happened_on : (t : Terms) (x : ℕ) (w : What) (d : ℕ) (b : Books) → happened t x w (on d b) ≡ on d (happened t x w b)
unfolding refunded from_suspense analysed
happened_on t x what.MonthMark d b = refl
happened_on t x (what.LateMark k) d b = charged_on t k d b
happened_on t x (what.Act (Pay c to)) d b = paid_on t x c to d b
happened_on t x (what.Act (Curtail c)) d b = to_principal_on c d (paid_in c b)
happened_on t x (what.Act (Payoff c)) d b = payoff_tried_on t x d (paid_in c b)
happened_on t x (what.Act (Deposit c)) d b = deposited_on c d b
happened_on t x (what.Act (Disburse c line)) d b = refl
happened_on t x (what.Act (Refund c)) d b = refl
happened_on t x (what.Act (Waive c)) d b = refl
happened_on t x (what.Act (Analyse s)) d b = refl

-- ---- a whole step

pub step_on : (t : Terms) (e : Event) (d : ℕ) (b : Books) → step t e (on d b) ≡ step t e b
unfolding step
step_on t e d b =
    let x = e.day in
    let y = happened t x e.what b in
    ap (λ z. on x (settled t x (marked x z))) (happened_on t x e.what d b)
    ∙ ap (λ z. on x (settled t x z)) (marked_on x d y)
    ∙ ap (on x) (settled_on t (month_of x + 1) x d (marked x y))

-- so books that are folded on come to the same, whatever day they stood for
pub folded_from : (t : Terms) (b : Books) (es : List Event) (d x : ℕ) → on d (folded t (on x b) es) ≡ on d (folded t b es)
folded_from t b [] d x = refl
folded_from t b (e ∷ es) d x = ap (λ y. on d (folded t y es)) (step_on t e x b)
