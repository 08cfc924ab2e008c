-- What the first rows of a file say, as they are read.
use Rattle.std.specs.Prelude.{◌≡◌, ℕ, List, [], ◌∷◌}

-- what is said by the first rows: the header, and what those after it say
abbrev pub IsTaken : {T : Type 0} → List (List ℕ) → (List (List (List ℕ)) → T → Type 0) → List (List (List ℕ)) → T → Type 0
IsTaken header says [] said = says [] said
IsTaken header says (first ∷ rows) said = (first ≡ header) × says rows said
