-- What custody holds for a loan.
use Rattle.std.proofs.Common.{◌≡◌, ℕ, zero, suc, ◌+◌, ◌-◌, ◌≤◌, ◌<◌, max, true, false, List, [], ◌∷◌, ◌++◌, map, length, arith, refl, sym, ap, ◌∙◌}
use Rattle.std.specs.Prelude.{ℤ, pos, ◌≤ℤ◌, ◌&&◌, nat_le, IfSome}
use Rattle.std.specs.Ordering.{int_eq}
use Rattle.std.specs.List.{range_with_len}
use Rattle.std.proofs.lemmas.Bool.Decides.{nat_tests}
use Rattle.std.proofs.lemmas.Int.{ints}
use Rattle.svc_base.specs.Sums.{total_by}
use Rattle.svc_base.proofs.SumLemmas.{total_by-append}
use Rattle.period_adjust.specs.Sealed.{Sealed}
use Rattle.period_adjust.specs.Conditions.{first_month, last_month}
use Rattle.period_adjust.specs.Kept.{month_after, AreConsecutive}
use Rattle.advance_book.specs.Positions.{pi_advanced, pi_residual}
use Rattle.custodial_book.specs.declared.row.Totals.{Totals}
use Rattle.svc_world.specs.Held.{Held, boarded_month, books_now}
use Rattle.svc_world.specs.LoanDues.{due_of}
use Rattle.svc_world.specs.Reports.{months_of}
use Rattle.svc_world.specs.World.{World}
use Rattle.svc_world.specs.Custody.{due_sum, dues_sum, collected, remitted_for, is_remitted_by, is_settled, totals_of}
use Rattle.svc_world.proofs.ChangesLemmas.{months_are, range_split, due_before}
use Rattle.svc_loan.specs.Kept.{KeptLoan}
use Rattle.svc_custody.specs.Cash.{dues_kept, is_settled_at, totals_at, IsKeptIn}

abbrev totals : ℤ → ℤ → ℤ → ℤ → ℤ → ℤ → ℤ → ℤ → ℤ → ℤ → ℤ → Totals
totals a b c d e f g h i j k = record { received = a; returned = b; refunded = c; disbursed = d; collected = e; fee = f; late = g; pi_advance = h; escrow_advance = i; remitted = j; residual = k }

pub same_totals : {a a' b b' c c' d d' e e' f f' g g' h h' i i' j j' k k' : ℤ} → a ≡ a' → b ≡ b' → c ≡ c' → d ≡ d' → e ≡ e' → f ≡ f' → g ≡ g' → h ≡ h' → i ≡ i' → j ≡ j' → k ≡ k' → totals a b c d e f g h i j k ≡ totals a' b' c' d' e' f' g' h' i' j' k'
same_totals p q r s t u v w x y z = rw (p, q, r, s, t, u, v, w, x, y, z) refl

pub smaller : (z : ℤ) → z ≤ℤ pos 40_960_000_000_000 → z ≤ℤ pos 100_000_000_000_000_000
smaller z h = omega (arith, ints, h)

-- ---- what is due for closed months

last_of : (r : Sealed) (rs : List Sealed) → AreConsecutive (r ∷ rs) → month_after (last_month (r ∷ rs)) ≡ r.month + suc (length rs)
last_of r [] h = omega arith
last_of r (s ∷ rs) h =
    let next : s.month ≡ r.month + 1 = h.0 in
    omega (arith, last_of s rs h.1, next)

-- nothing is due for months before the boarded one
nothing_early : (l : Held) (m n : ℕ) → m + n ≤ boarded_month l → total_by due_sum (map (due_of l) (range_with_len m n)) ≡ pos 0
nothing_early l m zero le = refl
nothing_early l m (suc n) le =
    let none = due_before l m (omega arith) in
    let i : pos 0 ≡ (due_of l m).interest = none.interest in
    let p : pos 0 ≡ (due_of l m).principal = none.principal in
    let rest = nothing_early l (m + 1) n (omega arith) in
    omega (arith, ints, i, p, rest)

map_append : {A B : Type 0} (f : A → B) (xs ys : List A) → map f (xs ++ ys) ≡ map f xs ++ map f ys
map_append f [] ys = refl
map_append f (x ∷ xs) ys = ap (λ zs. f x ∷ zs) (map_append f xs ys)

-- so what is due for n months from one before it on is what is due from the boarded one on
from_boarded_on : (l : Held) (f n c : ℕ) → f ≤ boarded_month l → boarded_month l + c ≡ max (boarded_month l) (f + n) → total_by due_sum (map (due_of l) (range_with_len f n)) ≡ total_by due_sum (map (due_of l) (range_with_len (boarded_month l) c))
from_boarded_on l f n c le closed =
    elim (nat_le (f + n) (boarded_month l)) as (λ v. nat_le (f + n) (boarded_month l) ≡ v → total_by due_sum (map (due_of l) (range_with_len f n)) ≡ total_by due_sum (map (due_of l) (range_with_len (boarded_month l) c))) [
      | true ↦ λ e.
          let early : f + n ≤ boarded_month l = grind (arith, nat_tests) in
          let none : c ≡ 0 = omega arith in
          nothing_early l f n early ∙ sym (ap (λ x. total_by due_sum (map (due_of l) (range_with_len (boarded_month l) x))) none)
      | false ↦ λ e.
          let late : boarded_month l < f + n = grind (arith, nat_tests) in
          split (boarded_month l - f) (omega arith) (omega arith)
    ] refl
  where
    split : (a : ℕ) → f + a ≡ boarded_month l → n ≡ a + c → total_by due_sum (map (due_of l) (range_with_len f n)) ≡ total_by due_sum (map (due_of l) (range_with_len (boarded_month l) c))
    split a at whole =
        let first = nothing_early l f a (omega arith) in
        let both = ap (total_by due_sum) (ap (λ x. map (due_of l) (range_with_len f x)) whole ∙ ap (map (due_of l)) (range_split f a c) ∙ map_append (due_of l) (range_with_len f a) (range_with_len (f + a) c)) ∙ total_by-append due_sum (map (due_of l) (range_with_len f a)) (map (due_of l) (range_with_len (f + a) c)) in
        let there = ap (λ x. total_by due_sum (map (due_of l) (range_with_len x c))) at in
        omega (arith, ints, both, first, there)

pub dues_are : (w : World) (k : KeptLoan) → AreConsecutive w.seals.reports → IfSome (first_month w.seals.reports) (λ first. first ≤ boarded_month k.held) → IsKeptIn w k → dues_kept k ≡ dues_sum w k.held
unfolding dues_sum
dues_are w k consecutive first h = by_reports w.seals.reports consecutive first h.closed
  where
    by_reports : (rs : List Sealed) → AreConsecutive rs → IfSome (first_month rs) (λ first. first ≤ boarded_month k.held) → boarded_month k.held + k.closed ≡ max (boarded_month k.held) (month_after (last_month rs)) → dues_kept k ≡ total_by due_sum (map (due_of k.held) (months_of rs))
    by_reports [] consecutive first closed =
        let none : k.closed ≡ 0 = omega arith in
        ap (λ x. total_by due_sum (map (due_of k.held) (range_with_len (boarded_month k.held) x))) none
    by_reports (r ∷ rs) consecutive first closed =
        let last = last_of r rs consecutive in
        let closed' : boarded_month k.held + k.closed ≡ max (boarded_month k.held) (r.month + suc (length rs)) = closed ∙ ap (max (boarded_month k.held)) last in
        sym (ap (λ ms. total_by due_sum (map (due_of k.held) ms)) (months_are r rs consecutive) ∙ from_boarded_on k.held r.month (suc (length rs)) k.closed first closed')

-- what is read off a loan as it is kept is what the definitions name
pub totals_are : (w : World) (k : KeptLoan) → AreConsecutive w.seals.reports → IfSome (first_month w.seals.reports) (λ first. first ≤ boarded_month k.held) → IsKeptIn w k → totals_at w.remitted k ≡ totals_of w k.held
unfolding totals_at totals_of is_settled
totals_are w k consecutive first h =
    let dues = dues_are w k consecutive first h in
    let settled : is_settled_at w.remitted k ≡ is_settled w k.held =
    ap (λ z. is_remitted_by (books_now k.held).satisfied w.remitted && int_eq z (dues_kept k)) h.remitted
    ∙ ap (λ z. is_remitted_by (books_now k.held).satisfied w.remitted && int_eq (remitted_for w k.held.id) z) dues in
    let c = collected (books_now k.held) in
    same_totals refl refl refl refl refl refl refl
    (ap (λ z. pi_advanced c z (is_settled_at w.remitted k)) h.remitted ∙ ap (pi_advanced c (remitted_for w k.held.id)) settled)
    refl
    h.remitted
    (ap (λ z. pi_residual c z (is_settled_at w.remitted k)) h.remitted ∙ ap (pi_residual c (remitted_for w k.held.id)) settled)
