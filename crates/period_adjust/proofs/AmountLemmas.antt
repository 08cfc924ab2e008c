-- Amounts between -10^15 and 10^15, and sums that stay there.
use Rattle.std.proofs.Common.{◌≡◌, ℕ, zero, suc, List, [], ◌∷◌, ◌++◌, ℤ, pos, ◌+ℤ◌, take, arith}
use Rattle.std.proofs.lemmas.Int.{ints}
use Rattle.svc_base.specs.Sums.{total_by}
use Rattle.period_adjust.specs.Conditions.{IsAmount}

-- an equal number
pub amount_same : (a b : ℤ) → a ≡ b → IsAmount b → IsAmount a
amount_same a b e h = record { low = omega (arith, ints); high = omega (arith, ints) }

-- the first so many of a list with one more before it
pub amounts-cons : {A : Type 0} (f : A → ℤ) (t : ℤ) (x : A) (xs : List A) → IsAmount t → ((k : ℕ) → IsAmount ((t +ℤ f x) +ℤ total_by f (take k xs))) → (k : ℕ) → IsAmount (t +ℤ total_by f (take k (x ∷ xs)))
amounts-cons f t x xs here rest zero = amount_same (t +ℤ pos 0) t (omega (arith, ints)) here
amounts-cons f t x xs here rest (suc k) = amount_same (t +ℤ (f x +ℤ total_by f (take k xs))) ((t +ℤ f x) +ℤ total_by f (take k xs)) (omega (arith, ints)) (rest k)

-- the first so many of two lists
pub amounts-append : {A : Type 0} (f : A → ℤ) (t : ℤ) (xs ys : List A) → ((k : ℕ) → IsAmount (t +ℤ total_by f (take k xs))) → ((k : ℕ) → IsAmount ((t +ℤ total_by f xs) +ℤ total_by f (take k ys))) → (k : ℕ) → IsAmount (t +ℤ total_by f (take k (xs ++ ys)))
amounts-append f t [] ys first second k = amount_same (t +ℤ total_by f (take k ys)) ((t +ℤ pos 0) +ℤ total_by f (take k ys)) (omega (arith, ints)) (second k)
amounts-append f t (x ∷ xs) ys first second k =
    amounts-cons f t x (xs ++ ys)
    (amount_same t (t +ℤ pos 0) (omega (arith, ints)) (first 0))
    (amounts-append f (t +ℤ f x) xs ys
    (λ j. amount_same ((t +ℤ f x) +ℤ total_by f (take j xs)) (t +ℤ (f x +ℤ total_by f (take j xs))) (omega (arith, ints)) (first (suc j)))
    (λ j. amount_same (((t +ℤ f x) +ℤ total_by f xs) +ℤ total_by f (take j ys)) ((t +ℤ (f x +ℤ total_by f xs)) +ℤ total_by f (take j ys)) (omega (arith, ints)) (second j)))
    k
