-- A row goes wrong in one column.
use Rattle.std.proofs.Common.{◌≡◌, ◌+◌, inl, inr, ℕ, List, refl, ap, arith}
use Rattle.std.proofs.lemmas.Bool.{cases_lt}
use Rattle.serv_line.specs.LineFaults.{IsFirstMisfit}
use Rattle.serv_rows.specs.Columns.{IsBadColumn, count, column}

one_misfit : (fits : ℕ → Type 0) (i j : ℕ) → IsFirstMisfit fits i → IsFirstMisfit fits j → i ≡ j
one_misfit fits i j p q =
    elim (cases_lt i j) [
      | inl below ↦ absurd (p.here (q.before i below))
      | inr le ↦ elim (cases_lt j i) [ inl above ↦ absurd (q.here (p.before j above)) | inr ge ↦ omega arith ]
    ]

pub one_column : (width : ℕ) (fits : List (List ℕ) → ℕ → Type 0) (row : List (List ℕ)) (m n : ℕ) → IsBadColumn width fits row m → IsBadColumn width fits row n → m ≡ n
one_column width fits row m n (count a) (count b) = refl
one_column width fits row m n (count a) (column q k y) = absurd (a k)
one_column width fits row m n (column p k x) (count b) = absurd (b k)
one_column width fits row m n (column p k x) (column q k' y) = ap (λ i. i + 1) (one_misfit (fits row) p q x y)
