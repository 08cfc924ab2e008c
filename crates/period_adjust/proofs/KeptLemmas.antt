-- Reports that follow one another: one more of them, and the months that are closed.
use Rattle.std.proofs.Common.{◌≡◌, ℕ, zero, suc, ◌+◌, ◌<◌, ◌≤◌, true, false, List, [], ◌∷◌, ◌++◌, length, Option, Some, None, IfSome, refl, arith, ap}
use Rattle.std.specs.Prelude.{◌==◌, unwrap_or}
use Rattle.std.proofs.lemmas.Bool.Decides.{nat_tests}
use Rattle.period_adjust.specs.Sealed.{Sealed}
use Rattle.period_adjust.specs.Conditions.{first_month, last_month, count_sent, IsClosed}
use Rattle.period_adjust.specs.Kept.{AreConsecutive, month_after}

pub count_sent-push : (rs : List Sealed) (r : Sealed) → count_sent (rs ++ r ∷ []) ≡ count_sent rs + length r.adjustments
count_sent-push [] r = omega arith
count_sent-push (x ∷ rs) r = omega (arith, count_sent-push rs r)

pub last_month-push : (rs : List Sealed) (r : Sealed) → last_month (rs ++ r ∷ []) ≡ Some r.month
last_month-push [] r = refl
last_month-push (x ∷ []) r = refl
last_month-push (x ∷ (y ∷ rs)) r = last_month-push (y ∷ rs) r

pub first_month-push : (rs : List Sealed) (r : Sealed) → first_month (rs ++ r ∷ []) ≡ Some (unwrap_or (first_month rs) r.month)
first_month-push [] r = refl
first_month-push (x ∷ rs) r = refl

pub consecutive-push : (rs : List Sealed) (r : Sealed) → AreConsecutive rs → IfSome (last_month rs) (λ last. r.month ≡ last + 1) → AreConsecutive (rs ++ r ∷ [])
consecutive-push [] r c h = (tt, tt)
consecutive-push (x ∷ []) r c h = (h, (tt, tt))
consecutive-push (x ∷ (y ∷ rs)) r c h = (c.0, consecutive-push (y ∷ rs) r c.1 h)

-- Closed months.

closed_later : (r : Sealed) (rs : List Sealed) (month : ℕ) → IsClosed rs month → IsClosed (r ∷ rs) month
closed_later r rs month c =
    let in' : c.0 < length rs = c.2 in
    (suc c.0, c.1, omega arith, c.3, c.4)

pub closed-push : (rs : List Sealed) (r : Sealed) (month : ℕ) → IsClosed rs month → IsClosed (rs ++ r ∷ []) month
closed-push [] r month c = let in' : c.0 < 0 = c.2 in absurd (omega arith)
closed-push (x ∷ rs) r month (zero, y, in', is, own) = (0, y, omega arith, is, own)
closed-push (x ∷ rs) r month (suc k, y, in', is, own) = closed_later x (rs ++ r ∷ []) month (closed-push rs r month (k, y, omega arith, is, own))

-- each month from the first to the last closed one is closed
pub closed_between : (rs : List Sealed) (first last month : ℕ) → AreConsecutive rs → first_month rs ≡ Some first → last_month rs ≡ Some last → first ≤ month → month ≤ last → IsClosed rs month
closed_between [] first last month c e f low high = absurd (cc)
closed_between (r ∷ []) first last month c e f low high =
    let from : r.month ≡ first = cc in
    let to : r.month ≡ last = cc in
    (0, r, omega arith, refl, omega arith)
closed_between (r ∷ (s ∷ rs)) first last month c e f low high =
    let from : r.month ≡ first = cc in
    let next : s.month ≡ r.month + 1 = c.0 in
    elim (r.month == month) as (λ t. (r.month == month) ≡ t → IsClosed (r ∷ s ∷ rs) month) [
      | true ↦ λ here. (0, r, omega arith, refl, grind (arith, nat_tests))
      | false ↦ λ apart.
          let later : s.month ≤ month = grind (arith, nat_tests) in
          closed_later r (s ∷ rs) month (closed_between (s ∷ rs) s.month last month c.1 refl f later high)
    ] refl

closed_below : (rs : List Sealed) (first month : ℕ) (last : Option ℕ) → AreConsecutive rs → first_month rs ≡ Some first → last_month rs ≡ last → first ≤ month → month < month_after last → IsClosed rs month
closed_below rs first month None c e f low high = absurd (omega arith)
closed_below rs first month (Some last) c e f low high = closed_between rs first last month c e f low (omega arith)

-- the same, below the month after the last
pub closed_to_end : (rs : List Sealed) (first month : ℕ) → AreConsecutive rs → first_month rs ≡ Some first → first ≤ month → month < month_after (last_month rs) → IsClosed rs month
closed_to_end rs first month c e low high = closed_below rs first month (last_month rs) c e refl low high

-- no month before the first is closed, and none after the last
pub closed_from_first : (rs : List Sealed) (first month : ℕ) → AreConsecutive rs → first_month rs ≡ Some first → IsClosed rs month → first ≤ month
closed_from_first [] first month c e closed = absurd (cc)
closed_from_first (r ∷ rs) first month c e (zero, y, in', is, own) =
    let from : r.month ≡ first = cc in
    let here : r.month ≡ y.month = ap (λ (x : Sealed). x.month) is in
    omega arith
closed_from_first (r ∷ []) first month c e (suc k, y, in', is, own) = absurd (omega arith)
closed_from_first (r ∷ (s ∷ rs)) first month c e (suc k, y, in', is, own) =
    let from : r.month ≡ first = cc in
    let next : s.month ≡ r.month + 1 = c.0 in
    let rest : s.month ≤ month = closed_from_first (s ∷ rs) s.month month c.1 refl (k, y, omega arith, is, own) in
    omega arith

-- the month after the last of them
pub month_after-last : (r : Sealed) (rs : List Sealed) → AreConsecutive (r ∷ rs) → month_after (last_month (r ∷ rs)) ≡ r.month + suc (length rs)
month_after-last r [] c = omega arith
month_after-last r (s ∷ rs) c =
    let next : s.month ≡ r.month + 1 = c.0 in
    omega (arith, month_after-last s rs c.1)
