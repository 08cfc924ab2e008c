-- A loan's adjustments, month by month.
use Rattle.std.proofs.Common.{◌≡◌, ℕ, zero, suc, ◌+◌, ◌*◌, ◌<◌, ◌≤◌, true, false, List, [], ◌∷◌, ℤ, pos, neg_ℤ, ◌+ℤ◌, ◌≤ℤ◌, refl, arith}
use Rattle.std.specs.Prelude.{◌==◌, ◌&&◌, if◌then◌else◌, FitsSigned}
use Rattle.std.specs.Int.{w64}
use Rattle.std.specs.List.{All}
use Rattle.std.proofs.lemmas.Int.{ints}
use Rattle.std.proofs.lemmas.Bool.Decides.{nat_tests}
use Rattle.std.proofs.lemmas.List.Elements.{All-head, All-tail}
use Rattle.svc_base.specs.Sums.{total_by}
use Rattle.period_adjust.specs.declared.adjustment.Adjustment.{Adjustment}
use Rattle.period_adjust.specs.Sums.{DuePart, part_of_adjustment, share}
use Rattle.period_adjust.specs.Totals.{adjusted}
use Rattle.period_adjust.specs.Kept.{IsBefore}

-- the adjustments of a loan for so many months from 1989-01 on
unfoldable pub months_total : DuePart → ℕ → List Adjustment → ℕ → ℤ
months_total p loan xs zero = pos 0
months_total p loan xs (suc n) = months_total p loan xs n +ℤ total_by (adjusted p loan (23_868 + n)) xs

-- an adjustment of another month
pub adjusted_other : (p : DuePart) (loan month : ℕ) (a : Adjustment) → (a.month == month) ≡ false → adjusted p loan month a ≡ pos 0
adjusted_other p loan month a h =
    elim (a.loan == loan) as (λ t. (if t && (a.month == month) then part_of_adjustment p a else pos 0) ≡ pos 0) [ true ↦ rw h refl | false ↦ refl ]

-- one of the month
pub adjusted_own : (p : DuePart) (loan month : ℕ) (a : Adjustment) → (a.month == month) ≡ true → adjusted p loan month a ≡ share p loan a
adjusted_own p loan month a h =
    elim (a.loan == loan) as (λ t. (if t && (a.month == month) then part_of_adjustment p a else pos 0) ≡ (if t then part_of_adjustment p a else pos 0)) [ true ↦ rw h refl | false ↦ refl ]

pub months_total-nil : (p : DuePart) (loan n : ℕ) → months_total p loan [] n ≡ pos 0
unfolding months_total
months_total-nil p loan zero = refl
months_total-nil p loan (suc n) = omega (arith, ints, months_total-nil p loan n)

pub months_total-cons : (p : DuePart) (loan : ℕ) (a : Adjustment) (xs : List Adjustment) (n : ℕ) → months_total p loan (a ∷ xs) n ≡ months_total p loan (a ∷ []) n +ℤ months_total p loan xs n
unfolding months_total
months_total-cons p loan a xs zero = refl
months_total-cons p loan a xs (suc n) = omega (arith, ints, months_total-cons p loan a xs n)

-- an adjustment of a later month
months_total-above : (p : DuePart) (loan : ℕ) (a : Adjustment) (n : ℕ) → 23_868 + n ≤ a.month → months_total p loan (a ∷ []) n ≡ pos 0
unfolding months_total
months_total-above p loan a zero h = refl
months_total-above p loan a (suc n) h =
    let apart : (a.month == (23_868 + n)) ≡ false = grind (arith, nat_tests) in
    let none : adjusted p loan (23_868 + n) a ≡ pos 0 = adjusted_other p loan (23_868 + n) a apart in
    let rest : months_total p loan (a ∷ []) n ≡ pos 0 = months_total-above p loan a n (omega arith) in
    omega (arith, ints)

-- one of these months
months_total-one : (p : DuePart) (loan : ℕ) (a : Adjustment) (n : ℕ) → 23_868 ≤ a.month → a.month < 23_868 + n → months_total p loan (a ∷ []) n ≡ share p loan a
unfolding months_total
months_total-one p loan a zero low high = absurd (omega arith)
months_total-one p loan a (suc n) low high =
    elim (a.month == (23_868 + n)) as (λ t. (a.month == (23_868 + n)) ≡ t → months_total p loan (a ∷ []) (suc n) ≡ share p loan a) [
      | true ↦ λ e.
          let here : a.month ≡ 23_868 + n = grind (arith, nat_tests) in
          let none : months_total p loan (a ∷ []) n ≡ pos 0 = months_total-above p loan a n (omega arith) in
          let own : adjusted p loan (23_868 + n) a ≡ share p loan a = adjusted_own p loan (23_868 + n) a e in
          omega (arith, ints)
      | false ↦ λ e.
          let below : a.month < 23_868 + n = grind (arith, nat_tests) in
          let rest : months_total p loan (a ∷ []) n ≡ share p loan a = months_total-one p loan a n low below in
          let none : adjusted p loan (23_868 + n) a ≡ pos 0 = adjusted_other p loan (23_868 + n) a e in
          omega (arith, ints)
    ] refl

-- the months together are all adjustments of the loan
pub months_total-all : (p : DuePart) (loan end n : ℕ) (xs : List Adjustment) → end ≤ 23_868 + n → All (λ a. IsBefore end a.month) xs → months_total p loan xs n ≡ total_by (share p loan) xs
months_total-all p loan end n [] h all = months_total-nil p loan n
months_total-all p loan end n (a ∷ xs) h all =
    let here : IsBefore end a.month = All-head (λ (b : Adjustment). IsBefore end b.month) a xs all in
    let low : 23_868 ≤ a.month = here.low in
    let high : a.month < 23_868 + n = omega arith in
    let one : months_total p loan (a ∷ []) n ≡ share p loan a = months_total-one p loan a n low high in
    let rest : months_total p loan xs n ≡ total_by (share p loan) xs = months_total-all p loan end n xs h (All-tail (λ (b : Adjustment). IsBefore end b.month) a xs all) in
    let split : months_total p loan (a ∷ xs) n ≡ months_total p loan (a ∷ []) n +ℤ months_total p loan xs n = months_total-cons p loan a xs n in
    omega (arith, ints)

-- between -2 * 10^15 and 2 * 10^15 cents
pub record IsDifference (z : ℤ) : Type 0 where
  pub low : neg_ℤ (pos 2_000_000_000_000_000) ≤ℤ z
  pub high : z ≤ℤ pos 2_000_000_000_000_000

pub record IsWithinMonths (n : ℕ) (z : ℤ) : Type 0 where
  pub low : pos 0 ≤ℤ (z +ℤ pos (n * 2_000_000_000_000_000))
  pub high : z ≤ℤ pos (n * 2_000_000_000_000_000)

pub months_total-bound : (p : DuePart) (loan n : ℕ) (xs : List Adjustment) → ((month : ℕ) → IsDifference (total_by (adjusted p loan month) xs)) → IsWithinMonths n (months_total p loan xs n)
unfolding months_total
months_total-bound p loan zero xs h = record { low = omega (arith, ints); high = omega (arith, ints) }
months_total-bound p loan (suc n) xs h =
    let here : IsDifference (total_by (adjusted p loan (23_868 + n)) xs) = h (23_868 + n) in
    let rest : IsWithinMonths n (months_total p loan xs n) = months_total-bound p loan n xs h in
    record { low = omega (arith, ints); high = omega (arith, ints) }

pub IsWithinMonths-fits : (z : ℤ) → IsWithinMonths 1_812 z → FitsSigned w64 z
IsWithinMonths-fits z h =
    let low : pos 0 ≤ℤ (z +ℤ pos 3_624_000_000_000_000_000) = h.low in
    let high : z ≤ℤ pos 3_624_000_000_000_000_000 = h.high in
    omega (arith, ints)
