-- What stays of a text that more is appended to.
use Rattle.std.specs.Prelude.{◌≡◌, ℕ, List, length, take}

-- the new text begins with the old one
pub record Keeps (old new : List ℕ) : Type 0 where
  pub begins : take (length old) new ≡ old
