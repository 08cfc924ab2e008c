-- Sums of amounts that lie within limits.
use Rattle.std.proofs.Common.{ℕ, ◌*◌, Bool, true, false, cond, List, [], ◌∷◌, length, arith}
use Rattle.std.specs.Prelude.{ℤ, pos, ◌+ℤ◌, ◌≤ℤ◌}
use Rattle.std.specs.List.{All, filter}
use Rattle.std.proofs.Math.Nat.{mul-suc}
use Rattle.std.proofs.lemmas.Int.{ints}
use Rattle.std.proofs.lemmas.List.Elements.{All-head, All-tail}
use Rattle.svc_base.specs.Sums.{total_by}

-- an amount from 0 to m
pub record IsUpTo (m : ℕ) (z : ℤ) : Type 0 where
  pub low : pos 0 ≤ℤ z
  pub high : z ≤ℤ pos m

-- a sum of such amounts
pub total_up_to : {A : Type 0} (m : ℕ) (f : A → ℤ) (xs : List A) → All (λ x. IsUpTo m (f x)) xs → IsUpTo (m * length xs) (total_by f xs)
total_up_to m f [] h = record { low = omega (arith, ints); high = omega (arith, ints) }
total_up_to m f (x ∷ xs) h =
    let here = All-head (λ y. IsUpTo m (f y)) x xs h in
    let rest = total_up_to m f xs (All-tail (λ y. IsUpTo m (f y)) x xs h) in
    let l1 = here.low in let h1 = here.high in
    let l2 = rest.low in let h2 = rest.high in
    let more = mul-suc m (length xs) in
    record { low = omega (arith, ints, l1, l2); high = omega (arith, ints, h1, h2, more) }

-- an amount no further from 0 than m, and a sum of such amounts
pub record IsAround (m : ℕ) (z : ℤ) : Type 0 where
  pub low : pos 0 ≤ℤ (z +ℤ pos m)
  pub high : z ≤ℤ pos m

pub total_around : {A : Type 0} (m : ℕ) (f : A → ℤ) (xs : List A) → All (λ x. IsAround m (f x)) xs → IsAround (m * length xs) (total_by f xs)
total_around m f [] h = record { low = omega (arith, ints); high = omega (arith, ints) }
total_around m f (x ∷ xs) h =
    let here = All-head (λ y. IsAround m (f y)) x xs h in
    let rest = total_around m f xs (All-tail (λ y. IsAround m (f y)) x xs h) in
    let l1 = here.low in let h1 = here.high in
    let l2 = rest.low in let h2 = rest.high in
    let more = mul-suc m (length xs) in
    record { low = omega (arith, ints, l1, l2, more); high = omega (arith, ints, h1, h2, more) }

-- a sum of amounts that are not below 0 is at least that of the ones that pass a test
pub total_of_some : {A : Type 0} (f : A → ℤ) (p : A → Bool) (xs : List A) → All (λ x. pos 0 ≤ℤ f x) xs → total_by f (filter p xs) ≤ℤ total_by f xs
total_of_some f p [] h = omega (arith, ints)
total_of_some f p (x ∷ xs) h =
    let here = All-head (λ y. pos 0 ≤ℤ f y) x xs h in
    let rest = total_of_some f p xs (All-tail (λ y. pos 0 ≤ℤ f y) x xs h) in
    elim (p x) as (λ v. total_by f (cond v (x ∷ filter p xs) (filter p xs)) ≤ℤ (f x +ℤ total_by f xs)) [
      | true ↦ omega (arith, ints, rest)
      | false ↦ omega (arith, ints, here, rest)
    ]

-- a sum of amounts that are not below 0
pub total_low : {A : Type 0} (f : A → ℤ) (xs : List A) → All (λ x. pos 0 ≤ℤ f x) xs → pos 0 ≤ℤ total_by f xs
total_low f [] h = omega (arith, ints)
total_low f (x ∷ xs) h =
    let here = All-head (λ y. pos 0 ≤ℤ f y) x xs h in
    let rest = total_low f xs (All-tail (λ y. pos 0 ≤ℤ f y) x xs h) in
    omega (arith, ints, here, rest)
