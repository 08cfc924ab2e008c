-- What the calls of a disk do to its content, and what a crash may leave.
use Rattle.std.specs.Prelude.{◌≡◌, ◌⊎◌, ℕ, ◌+◌, ◌≤◌, List, ◌++◌, length, take, drop, Option, Some, None}

-- new is old with these bytes from this place on
abbrev pub Holds : ℕ → List ℕ → List ℕ → List ℕ → Type 0
Holds at bytes old new = new ≡ take at old ++ bytes ++ drop (at + length bytes) old

-- what reads give goes from old to new by this step, where the disk tells it; what it tells, and whether, stays told
abbrev pub Told : Option (List ℕ) → Option (List ℕ) → (List ℕ → List ℕ → Type 0) → Type 0
Told None new step = new ≡ None
Told (Some old) None step = ⊥
Told (Some old) (Some new) step = step old new

-- each of these images
abbrev pub Each : (List ℕ → Type 0) → (List ℕ → Type 0) → Type 0
Each images P = (c : List ℕ) → images c → P c

-- an image that this step leads to from one of the old images
abbrev pub After : (List ℕ → List ℕ → Type 0) → (List ℕ → Type 0) → List ℕ → Type 0
After step old c = (d : List ℕ) × old d × step d c

-- a crash leaves what reads give and nothing else
abbrev pub Only : Option (List ℕ) → (List ℕ → Type 0) → Type 0
Only told images = Each images (λ c. told ≡ Some c)

-- What is seen of a disk: what reads give, where it tells it; what a crash may leave at this moment, which has a number; and at some
-- moment from one on, during a call or between two.
pub record View : Type 1 where
  pub seen : Option (List ℕ)
  pub images : List ℕ → Type 0
  pub moment : ℕ
  pub since : ℕ → List ℕ → Type 0

-- of a disk that tells nothing
abbrev pub nothing_seen : View
nothing_seen = record { seen = None; images = λ c. ⊥; moment = 0; since = λ t c. ⊥ }

-- Time goes on: a crash since t might have left what it might have left before, or what it may leave now.
pub record Elapses (old new : View) : Type 0 where
  pub later : old.moment ≤ new.moment
  pub nothing_else : (t : ℕ) (c : List ℕ) → t ≤ old.moment → new.since t c → old.since t c ⊎ new.images c
  pub keeps : (t : ℕ) (c : List ℕ) → t ≤ old.moment → old.since t c → new.since t c

-- a crash at any moment since old leaves an image that has P
pub record LeavesOnly {D : Type 0} (view : D → View) (old new : D) (P : List ℕ → Type 0) : Type 0 where
  pub later : (view old).moment ≤ (view new).moment
  pub each : (c : List ℕ) → (view new).since (view old).moment c → P c
  -- for a run that began earlier
  pub before : (t : ℕ) (c : List ℕ) → t ≤ (view old).moment → (view new).since t c → (view old).since t c ⊎ P c
