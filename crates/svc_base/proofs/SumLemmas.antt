-- Sums over lists.
use Rattle.std.proofs.Common.{◌≡◌, Bool, true, false, cond, List, [], ◌∷◌, ◌++◌, map, arith, refl, ap}
use Rattle.std.specs.Prelude.{ℤ, pos, ◌+ℤ◌, not}
use Rattle.std.specs.List.{All, filter}
use Rattle.std.proofs.lemmas.Int.{ints}
use Rattle.std.proofs.lemmas.List.Elements.{All-head, All-tail}
use Rattle.svc_base.specs.Sums.{total_by}

-- a sum over two lists
pub total_by-append : {A : Type 0} (f : A → ℤ) (xs ys : List A) → total_by f (xs ++ ys) ≡ total_by f xs +ℤ total_by f ys
total_by-append f [] ys = omega (arith, ints)
total_by-append f (x ∷ xs) ys = omega (arith, ints, total_by-append f xs ys)

-- one element more
pub total_by-push : {A : Type 0} (f : A → ℤ) (xs : List A) (x : A) → total_by f (xs ++ x ∷ []) ≡ total_by f xs +ℤ f x
total_by-push f xs x = omega (arith, ints, total_by-append f xs (x ∷ []))

-- a sum of zeros
pub total_by-zero : {A : Type 0} (f : A → ℤ) (xs : List A) → All (λ x. f x ≡ pos 0) xs → total_by f xs ≡ pos 0
total_by-zero f [] a = refl
total_by-zero f (x ∷ xs) a =
    let here : f x ≡ pos 0 = All-head (λ y. f y ≡ pos 0) x xs a in
    let rest : total_by f xs ≡ pos 0 = total_by-zero f xs (All-tail (λ y. f y ≡ pos 0) x xs a) in
    omega (arith, ints)

-- two amounts that are the same for each element
pub total_by-same : {A : Type 0} (f g : A → ℤ) (xs : List A) → All (λ x. f x ≡ g x) xs → total_by f xs ≡ total_by g xs
total_by-same f g [] a = refl
total_by-same f g (x ∷ xs) a =
    let here : f x ≡ g x = All-head (λ y. f y ≡ g y) x xs a in
    let rest : total_by f xs ≡ total_by g xs = total_by-same f g xs (All-tail (λ y. f y ≡ g y) x xs a) in
    omega (arith, ints)

-- two amounts added for each element
pub total_by-both : {A : Type 0} (f g : A → ℤ) (xs : List A) → total_by (λ x. f x +ℤ g x) xs ≡ total_by f xs +ℤ total_by g xs
total_by-both f g [] = refl
total_by-both f g (x ∷ xs) = omega (arith, ints, total_by-both f g xs)

-- the amounts of what elements are turned into
pub total_by-map : {A : Type 0} {B : Type 0} (f : B → ℤ) (g : A → B) (xs : List A) → total_by f (map g xs) ≡ total_by (λ x. f (g x)) xs
total_by-map f g [] = refl
total_by-map f g (x ∷ xs) = ap (λ z. f (g x) +ℤ z) (total_by-map f g xs)

-- a list is what passes a test and what does not
pub total_by-parts : {A : Type 0} (f : A → ℤ) (p : A → Bool) (xs : List A) → total_by f xs ≡ total_by f (filter (λ x. not (p x)) xs) +ℤ total_by f (filter p xs)
total_by-parts f p [] = refl
total_by-parts f p (x ∷ xs) =
    elim (p x) as (λ v. f x +ℤ total_by f xs ≡ total_by f (cond (not v) (x ∷ filter (λ y. not (p y)) xs) (filter (λ y. not (p y)) xs)) +ℤ total_by f (cond v (x ∷ filter p xs) (filter p xs))) [
      | true ↦ omega (arith, ints, total_by-parts f p xs)
      | false ↦ omega (arith, ints, total_by-parts f p xs)
    ]

-- an element put in before another place adds its amount
pub total_by-insert : {A : Type 0} (f : A → ℤ) (xs ys : List A) (x : A) → total_by f (xs ++ x ∷ ys) ≡ f x +ℤ total_by f (xs ++ ys)
total_by-insert f xs ys x = omega (arith, ints, total_by-append f xs (x ∷ ys), total_by-append f xs ys)
