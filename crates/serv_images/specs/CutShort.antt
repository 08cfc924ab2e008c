-- What a crash or a fault may leave of a call that it cuts short.
use Rattle.std.specs.Prelude.{◌≡◌, ◌⊎◌, ℕ, ◌+◌, max, List, length, take, drop}

-- after a write of n bytes that a crash or a fault may cut short: any bytes in its range, the same elsewhere, and the
-- old length or the new one
pub record TornAt (at n : ℕ) (old new : List ℕ) : Type 0 where
  pub before : take at new ≡ take at old
  pub after : drop (at + n) new ≡ drop (at + n) old
  pub size : (length new ≡ length old) ⊎ (length new ≡ max (length old) (at + n))

-- after a cut to n bytes that a crash or a fault may leave out
abbrev pub Cut : ℕ → List ℕ → List ℕ → Type 0
Cut n old new = (new ≡ old) ⊎ (new ≡ take n old)
