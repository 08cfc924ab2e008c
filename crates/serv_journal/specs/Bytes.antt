-- Parts of a file by what it begins with.
use Rattle.std.specs.Prelude.{◌≡◌, ◌⊎◌, ℕ, List, [], ◌∷◌, ◌++◌, take, drop}

-- the file begins with these bytes
pub record Starts (front file : List ℕ) : Type 0 where
  pub tail : List ℕ
  pub is : file ≡ front ++ tail

-- the file begins with front, any one byte, and rest
pub record Between (front rest file : List ℕ) : Type 0 where
  pub byte : ℕ
  pub starts : Starts (front ++ byte ∷ rest) file

-- while a record is added after front: its commit byte is closed, or the record is there after any
-- commit byte
abbrev pub IsOpening : List ℕ → List ℕ → List ℕ → Type 0
IsOpening front bytes file = Starts (front ++ 0 ∷ []) file ⊎ Between front bytes file

-- so many bytes after the first n
abbrev pub piece : ℕ → ℕ → List ℕ → List ℕ
piece n count bytes = take count (drop n bytes)
