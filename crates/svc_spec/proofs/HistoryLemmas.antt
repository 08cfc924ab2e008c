-- The columns of a loan's history add up to its books: a mark that has no line changes none of them.
use Rattle.std.proofs.Common.{◌≡◌, ℕ, ◌+◌, ◌∷◌, [], List, Bool, true, false, cond, map, arith, refl, sym}
use Rattle.std.specs.Prelude.{ℤ, pos, ◌+ℤ◌, ◌-ℤ◌, ◌≤ℤ◌, ◌&&◌, ◌||◌, not, int_lt, int_le, nat_le, is_none, Some, if◌then◌else◌}
use Rattle.std.specs.List.{All, filter}
use Rattle.std.specs.Ordering.{int_eq}
use Rattle.std.proofs.lemmas.Bool.Decides.{Decides-int_eq}
use Rattle.std.proofs.lemmas.Int.{ints, clamps}
use Rattle.std.proofs.lemmas.List.Elements.{All-cons, All-head}
use Rattle.svc_base.specs.Calendar.{month_of}
use Rattle.svc_base.specs.Money.{share_bp}
use Rattle.svc_base.specs.Sums.{total_by}
use Rattle.svc_base.proofs.MoneyLemmas.{month_interest_low}
use Rattle.svc_types.specs.declared.terms.Terms.{Terms}
use Rattle.svc_types.specs.declared.books.Books.{Books}
use Rattle.svc_types.specs.declared.account.Entry.{Entry}
use Rattle.svc_types.specs.declared.account.Event.{Event}
use Rattle.svc_types.specs.declared.account.What.{What}
use Rattle.svc_types.specs.declared.account.What.TheVariants as what
use Rattle.svc_types.specs.declared.desk.HistoryLine.{HistoryLine}
use Rattle.svc_types.specs.Terms.{IsSound}
use Rattle.svc_spec.specs.Installments.{due_month}
use Rattle.svc_spec.specs.Settling.{moved_one, late_paid, late_taken, is_overdue, marked, settled_by}
use Rattle.svc_spec.specs.Step.{charged, happened, step, brought_by, paid_out_by}
use Rattle.svc_spec.specs.Books.{HaveSigns, IsWhat, start}
use Rattle.svc_spec.specs.Events.{events_to, folded, books_at}
use Rattle.svc_spec.specs.Accounts.{Account, live_of, books_of, IsAccount}
use Rattle.svc_spec.specs.History.{Passed, passed, number_for, left_behind, is_entry, has_line, history_line, lines_of_passed, history_of}
use Rattle.svc_spec.specs.HistoryLaws.{AddUp, IsBalanced}
use Rattle.svc_spec.proofs.InstallmentLemmas.{IsBalance, principal_part_bounds, escrow_part_bounds}
use Rattle.svc_spec.proofs.SettledLemmas.{settled_keeps}
use Rattle.svc_spec.proofs.WholeStep.{happened_marked_signs, step_total}
use Rattle.svc_spec.proofs.EventLemmas.{CanFold, can_fold_step}
use Rattle.svc_spec.proofs.AccountLemmas.{account_folds}

-- ---- what a mark leaves no smaller

-- later books hold and have collected at least as much, whatever waits in suspense
record Grew (b b' : Books) : Type 0 where
  interest : b.interest ≤ℤ b'.interest
  principal : b.principal ≤ℤ b'.principal
  escrow : b.escrow ≤ℤ b'.escrow
  late_paid : b.late_paid ≤ℤ b'.late_paid

stays : (b : Books) → Grew b b
stays b = record { interest = omega (arith, ints); principal = omega (arith, ints); escrow = omega (arith, ints); late_paid = omega (arith, ints) }

grew_on : (a b c : Books) → Grew a b → Grew b c → Grew a c
grew_on a b c h g =
    let h1 = h.interest in let h2 = h.principal in let h3 = h.escrow in let h4 = h.late_paid in
    let g1 = g.interest in let g2 = g.principal in let g3 = g.escrow in let g4 = g.late_paid in
    record { interest = omega (arith, ints); principal = omega (arith, ints); escrow = omega (arith, ints); late_paid = omega (arith, ints) }

marked_grew : (d : ℕ) (b : Books) → Grew b (marked d b)
unfolding marked
marked_grew d b = elim (int_le b.upb (pos 0) && is_none b.satisfied) as (λ v. Grew b (if v then record b { satisfied = Some d } else b)) [
  | true ↦ record { interest = omega (arith, ints); principal = omega (arith, ints); escrow = omega (arith, ints); late_paid = omega (arith, ints) }
  | false ↦ stays b
]

late_taken_grew : (t : Terms) (d : ℕ) (b : Books) → HaveSigns t b → Grew b (late_taken t d b)
unfolding late_taken
late_taken_grew t d b h =
    let suspense = h.suspense in
    let owed = h.late_owed in
    elim (is_overdue t d b) as (λ v. Grew b (if v then b else late_paid b)) [
      | true ↦ stays b
      | false ↦ record { interest = omega (arith, ints); principal = omega (arith, ints); escrow = omega (arith, ints); late_paid = omega (arith, ints, clamps) }
    ]

moved_one_grew : (t : Terms) (b : Books) → IsSound t → HaveSigns t b → Grew b (moved_one t b)
unfolding moved_one
moved_one_grew t b s h =
    let balance : IsBalance t b.upb = record { low = h.upb_low; high = h.upb_high } in
    let principal = principal_part_bounds t b.upb b.next s balance in
    let interest = month_interest_low b.upb t.rate in
    let escrow = escrow_part_bounds b.plan b.earlier (due_month t b.next) h.plan h.earlier in
    record { interest = omega (arith, ints); principal = omega (arith, ints); escrow = omega (arith, ints); late_paid = omega (arith, ints) }

settled_grew : (t : Terms) (by d : ℕ) (a b : Books) → IsSound t → HaveSigns t b → Grew a b → Grew a (settled_by t by d b)
settled_grew t by d a b s signs h = settled_keeps t by d (Grew a) s (λ x hx c k. grew_on a x (moved_one t x) k (moved_one_grew t x s hx)) (λ x hx k. grew_on a x (late_taken t d x) k (late_taken_grew t d x hx)) (λ x k. grew_on a x (marked d x) k (marked_grew d x)) b signs h

charged_grew : (t : Terms) (k : ℕ) (b : Books) → Grew b (charged t k b)
unfolding charged
charged_grew t k b = elim (int_lt (pos 0) b.upb && nat_le b.next k) as (λ v. Grew b (if v then record b { late_owed = b.late_owed +ℤ share_bp t.pi t.late } else b)) [
  | true ↦ record { interest = omega (arith, ints); principal = omega (arith, ints); escrow = omega (arith, ints); late_paid = omega (arith, ints) }
  | false ↦ stays b
]

happened_grew : (t : Terms) (d : ℕ) (w : What) (b : Books) → is_entry w ≡ false → Grew b (happened t d w b)
happened_grew t d what.MonthMark b mark = stays b
happened_grew t d (what.LateMark k) b mark = charged_grew t k b
happened_grew t d (what.Act a) b mark = absurd (cc)

step_grew : (t : Terms) (e : Event) (b : Books) → IsSound t → IsWhat e.what → HaveSigns t b → is_entry e.what ≡ false → Grew b (step t e b)
unfolding step
step_grew t e b s a h mark =
    let first = happened t e.day e.what b in
    let marks = marked e.day first in
    let all = settled_grew t (month_of e.day + 1) e.day b marks s (happened_marked_signs t e.day e.what b s a h) (grew_on b first marks (happened_grew t e.day e.what b mark) (marked_grew e.day first)) in
    record { interest = all.interest; principal = all.principal; escrow = all.escrow; late_paid = all.late_paid }

-- ---- an event without a line changes no column

-- the numbers of the columns are the same
record AreSame (b b' : Books) : Type 0 where
  interest : b'.interest ≡ b.interest
  principal : b'.principal ≡ b.principal
  escrow : b'.escrow ≡ b.escrow
  late_owed : b'.late_owed ≡ b.late_owed
  late_paid : b'.late_paid ≡ b.late_paid
  suspense : b'.suspense ≡ b.suspense

none_of : (x y z : Bool) → (x || not y || not z) ≡ false → (x ≡ false) × (y ≡ true) × (z ≡ true)
none_of false true true h = (refl, refl, refl)
none_of true y z h = absurd (cc)
none_of false false z h = absurd (cc)
none_of false true false h = absurd (cc)

brings_nothing : (w : What) → is_entry w ≡ false → (brought_by w ≡ pos 0) × (paid_out_by w ≡ pos 0)
brings_nothing what.MonthMark h = (refl, refl)
brings_nothing (what.LateMark k) h = (refl, refl)
brings_nothing (what.Act a) h = absurd (cc)

-- the event that follows, with the first entry that is left
abbrev following : Terms → Event → Books → List Entry → Passed
following t e b live = record { event = e; number = number_for e.what live; before = b; after = step t e b }

hidden_same : (t : Terms) (e : Event) (b : Books) (live : List Entry) → IsSound t → IsWhat e.what → HaveSigns t b → has_line (following t e b live) ≡ false → AreSame b (step t e b)
hidden_same t e b live s a h hidden =
    let c = step t e b in
    let parts = none_of (is_entry e.what) (int_eq b.suspense c.suspense) (int_eq b.late_owed c.late_owed) hidden in
    let suspense : b.suspense ≡ c.suspense = (Decides-int_eq b.suspense c.suspense).0 parts.1 in
    let owed : b.late_owed ≡ c.late_owed = (Decides-int_eq b.late_owed c.late_owed).0 parts.2 in
    let grew = step_grew t e b s a h parts.0 in
    let g1 = grew.interest in let g2 = grew.principal in let g3 = grew.escrow in let g4 = grew.late_paid in
    let money = step_total t e b s a h in
    let nothing = brings_nothing e.what parts.0 in
    record {
      interest = omega (arith, ints, money, nothing, suspense);
      principal = omega (arith, ints, money, nothing, suspense);
      escrow = omega (arith, ints, money, nothing, suspense);
      late_owed = sym owed;
      late_paid = omega (arith, ints, money, nothing, suspense);
      suspense = sym suspense;
    }

-- ---- a column adds up

column : (col : HistoryLine → ℤ) (f : Books → ℤ) (t : Terms) → ((p : Passed) → col (history_line t p) ≡ f p.after -ℤ f p.before) → ((b b' : Books) → AreSame b b' → f b' ≡ f b) → (b : Books) (live : List Entry) (es : List Event) → IsSound t → CanFold t b es → total_by col (lines_of_passed t (passed t b live es)) ≡ f (folded t b es) -ℤ f b
unfolding passed
column col f t is same b live [] s h = omega (arith, ints)
column col f t is same b live (e ∷ es) s h =
    let p = following t e b live in
    let ps = passed t (step t e b) (left_behind e.what live) es in
    let rest = column col f t is same (step t e b) (left_behind e.what live) es s (can_fold_step t b e es s h) in
    let a = All-head (λ x. IsWhat x.what) e es h.whats in
    elim (has_line p) as (λ v. has_line p ≡ v → total_by col (map (history_line t) (cond v (p ∷ filter has_line ps) (filter has_line ps))) ≡ f (folded t (step t e b) es) -ℤ f b) [
      | true ↦ λ shown. omega (arith, ints, is p, rest)
      | false ↦ λ hidden. omega (arith, ints, same b (step t e b) (hidden_same t e b live s a h.books.signs hidden), rest)
    ] refl

-- the sums begin at 0
from_none : (x y z : ℤ) → x ≡ y -ℤ z → z ≡ pos 0 → x ≡ y
from_none x y z h none = omega (arith, ints)

pub history_adds_up : (a : Account) → IsAccount a → AddUp (history_of a) (books_of a a.today)
unfolding history_of books_at start
history_adds_up a h =
    let t = a.terms in
    let live = live_of a in
    let es = events_to t live a.today in
    let can = account_folds a a.today h in
    record {
      interest = from_none _ _ _ (column (λ l. l.interest) (λ b. b.interest) t (λ p. refl) (λ b b' q. q.interest) (start t) live es h.terms can) refl;
      principal = from_none _ _ _ (column (λ l. l.principal) (λ b. b.principal) t (λ p. refl) (λ b b' q. q.principal) (start t) live es h.terms can) refl;
      escrow = from_none _ _ _ (column (λ l. l.escrow) (λ b. b.escrow) t (λ p. refl) (λ b b' q. q.escrow) (start t) live es h.terms can) refl;
      late = from_none _ _ _ (column (λ l. l.late) (λ b. b.late_owed) t (λ p. refl) (λ b b' q. q.late_owed) (start t) live es h.terms can) refl;
      charges = from_none _ _ _ (column (λ l. l.charges) (λ b. b.late_paid) t (λ p. refl) (λ b b' q. q.late_paid) (start t) live es h.terms can) refl;
      suspense = from_none _ _ _ (column (λ l. l.suspense) (λ b. b.suspense) t (λ p. refl) (λ b b' q. q.suspense) (start t) live es h.terms can) refl;
    }

-- ---- each line is balanced

balanced : (t : Terms) (e : Event) (b : Books) (live : List Entry) → IsSound t → IsWhat e.what → HaveSigns t b → IsBalanced (history_line t (following t e b live))
balanced t e b live s a h = let money = step_total t e b s a h in omega (arith, ints, money)

all_balanced : (t : Terms) (b : Books) (live : List Entry) (es : List Event) → IsSound t → CanFold t b es → All IsBalanced (lines_of_passed t (passed t b live es))
unfolding passed
all_balanced t b live [] s h = λ k d lt. absurd (omega arith)
all_balanced t b live (e ∷ es) s h =
    let p = following t e b live in
    let ps = passed t (step t e b) (left_behind e.what live) es in
    let rest = all_balanced t (step t e b) (left_behind e.what live) es s (can_fold_step t b e es s h) in
    let a = All-head (λ x. IsWhat x.what) e es h.whats in
    elim (has_line p) as (λ v. All IsBalanced (map (history_line t) (cond v (p ∷ filter has_line ps) (filter has_line ps)))) [
      | true ↦ All-cons IsBalanced (history_line t p) (map (history_line t) (filter has_line ps)) (balanced t e b live s a h.books.signs) rest
      | false ↦ rest
    ]

pub history_balanced : (a : Account) → IsAccount a → All IsBalanced (history_of a)
unfolding history_of
history_balanced a h = all_balanced a.terms (start a.terms) (live_of a) (events_to a.terms (live_of a) a.today) h.terms (account_folds a a.today h)
