-- Words of the scan for a target.
use Rattle.std.specs.Prelude.{◌≡◌, ℕ, zero, suc, ◌+◌, List, ◌∷◌, ◌++◌, drop, Bool, not, ◌==◌}
use Rattle.httparse.specs.Grammar.{LineEnd, IsToken, AllPass, is_uri_byte}
use Rattle.httparse.specs.Pieces.{Begins, Newline}

-- any byte but this one
abbrev pub is_other : ℕ → ℕ → Bool
is_other stop b = not (b == stop)

-- a line end of that length stands at a place, or none where the length is 0
abbrev pub IsLineEndAt : List ℕ → ℕ → ℕ → Type 0
IsLineEndAt buf at zero = ¬ (Begins Newline (drop at buf))
IsLineEndAt buf at (suc n) = (e : LineEnd) × Newline e (drop at buf) (drop (at + suc n) buf)

-- what the bytes after the blank lines are, where a target is open
pub record IsOpenTarget (rest : List ℕ) : Type 0 where
  pub method : List ℕ
  pub target : List ℕ
  pub token : IsToken method
  pub passes : AllPass is_uri_byte target
  pub cut : rest ≡ method ++ 32 ∷ target
