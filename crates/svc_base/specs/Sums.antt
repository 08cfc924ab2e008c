-- Sums over lists: one amount of each element, in cents or counted.
use Rattle.std.specs.Prelude.{List, [], ◌∷◌, ℤ, pos, ◌+ℤ◌}

-- one amount of each element of a list, added up
abbrev pub total_by : {A : Type 0} → (A → ℤ) → List A → ℤ
total_by f [] = pos 0
total_by f (x ∷ xs) = f x +ℤ total_by f xs
