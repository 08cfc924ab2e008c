-- The fields of a record by their places.
use Rattle.std.proofs.Common.{◌≡◌, ◌<◌, ℕ, zero, suc, List, [], ◌∷◌, Some, None, length, arith}
use Rattle.csv.specs.Records.{field_at}

-- a record has a field in each place below its count
pub is_there : (fs : List (List ℕ)) (i : ℕ) → i < length fs → None ≡ field_at fs i → ⊥
unfolding field_at
is_there [] i l e = absurd (omega arith)
is_there (f ∷ fs) zero l e = absurd cc
is_there (f ∷ fs) (suc i) l e = is_there fs i (omega arith) e

-- four fields by their places
pub four : (fs : List (List ℕ)) (a b c d : List ℕ) → length fs ≡ 4 → field_at fs 0 ≡ Some a → field_at fs 1 ≡ Some b → field_at fs 2 ≡ Some c
    → field_at fs 3 ≡ Some d → fs ≡ a ∷ b ∷ c ∷ d ∷ []
unfolding field_at
four (u ∷ v ∷ w ∷ x ∷ []) a b c d n p0 p1 p2 p3 = cc
four [] a b c d n p0 p1 p2 p3 = absurd (omega arith)
four (u ∷ []) a b c d n p0 p1 p2 p3 = absurd (omega arith)
four (u ∷ v ∷ []) a b c d n p0 p1 p2 p3 = absurd (omega arith)
four (u ∷ v ∷ w ∷ []) a b c d n p0 p1 p2 p3 = absurd (omega arith)
four (u ∷ v ∷ w ∷ x ∷ t ∷ more) a b c d n p0 p1 p2 p3 = absurd (omega arith)
