-- A disk in memory: what its calls made of the content that was there at first, and what a crash may leave.
use Rattle.std.specs.Prelude.{◌≡◌, ◌⊎◌, ℕ, ◌+◌, ◌≤◌, List, [], ◌∷◌, ◌++◌, length, take, drop}
use Rattle.serv_images.specs.CutShort.{TornAt, Cut}

-- a call that was made; lists of them have the newest first
pub data DiskCall : Type 0 where
  Wrote : (at : ℕ) (bytes : List ℕ) → DiskCall
  Shortened : (n : ℕ) → DiskCall
  Synced : DiskCall

-- these bytes over what is there, from this place on
abbrev pub written : ℕ → List ℕ → List ℕ → List ℕ
written at bytes file = take at file ++ bytes ++ drop (at + length bytes) file

-- what reads give
abbrev pub now_of : List ℕ → List DiskCall → List ℕ
now_of first [] = first
now_of first (Wrote at bytes ∷ older) = written at bytes (now_of first older)
now_of first (Shortened n ∷ older) = take n (now_of first older)
now_of first (Synced ∷ older) = now_of first older

-- what reads gave at the last sync that succeeded
abbrev pub synced_of : List ℕ → List DiskCall → List ℕ
synced_of first [] = first
synced_of first (Wrote at bytes ∷ older) = synced_of first older
synced_of first (Shortened n ∷ older) = synced_of first older
synced_of first (Synced ∷ older) = now_of first older

-- each write began at or before the end
abbrev pub AreWithin : List ℕ → List DiskCall → Type 0
AreWithin first [] = Unit {0}
AreWithin first (Wrote at bytes ∷ older) = (at ≤ length (now_of first older)) × AreWithin first older
AreWithin first (Shortened n ∷ older) = AreWithin first older
AreWithin first (Synced ∷ older) = AreWithin first older

-- What a crash now may leave: what reads give, or an image from before the newest call of which that call made its
-- part or none of it. After a sync it is what reads give.
abbrev pub IsImage : List ℕ → List DiskCall → List ℕ → Type 0
IsImage first [] c = c ≡ first
IsImage first (Wrote at bytes ∷ older) c =
    (c ≡ written at bytes (now_of first older)) ⊎ ((d : List ℕ) × IsImage first older d × TornAt at (length bytes) d c)
IsImage first (Shortened n ∷ older) c = (c ≡ take n (now_of first older)) ⊎ ((d : List ℕ) × IsImage first older d × Cut n d c)
IsImage first (Synced ∷ older) c = c ≡ now_of first older

-- what a crash may have left since that many calls were made
abbrev pub IsSince : List ℕ → List DiskCall → ℕ → List ℕ → Type 0
IsSince first [] t c = IsImage first [] c
IsSince first (call ∷ older) t c = IsImage first (call ∷ older) c ⊎ ((t ≤ length older) × IsSince first older t c)
