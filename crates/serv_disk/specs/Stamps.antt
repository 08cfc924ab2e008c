-- What a sink notes of its writes beside a disk.
use Rattle.std.specs.Prelude.{◌≡◌, ℕ, ◌≤◌, List, [], ◌∷◌, ◌++◌, Option, Some, None, ⊤}

-- a write: the moment of the disk from which it counts, and how many bytes the sink held after it
pub record Stamp : Type 0 where
  pub at : ℕ
  pub upto : ℕ

abbrev pub stamp : ℕ → ℕ → Stamp
stamp at upto = record { at = at; upto = upto }

-- these are noted after those before, where the sink tells what it notes
abbrev pub Adds : Option (List Stamp) → Option (List Stamp) → List Stamp → Type 0
Adds None new stamps = ⊤
Adds (Some before) None stamps = ⊥
Adds (Some before) (Some after) stamps = after ≡ before ++ stamps

-- all of these count from this moment, and at most so many bytes were held after each
abbrev pub AreAt : ℕ → ℕ → List Stamp → Type 0
AreAt at most [] = Unit {0}
AreAt at most (s ∷ stamps) = (s.at ≡ at) × (s.upto ≤ most) × AreAt at most stamps

-- some writes are noted that are all of them so
pub record Notes (at most : ℕ) (log log' : Option (List Stamp)) : Type 0 where
  pub stamps : List Stamp
  pub added : Adds log log' stamps
  pub each : AreAt at most stamps
