-- What the trait asks of a disk in memory.
use Rattle.std.specs.Prelude.{None, ◌≡◌, ℕ, List, [], ◌∷◌, length, refl, Some}
use Rattle.std.proofs.Common.{inl, inr, subst, arith}
use Rattle.serv_images.specs.DiskCalls.{DiskCall, Wrote, Shortened, Synced, now_of, IsImage, IsSince}

-- this moment is one of those since an earlier one
pub since_now : (first : List ℕ) (calls : List DiskCall) (t : ℕ) (c : List ℕ) → IsImage first calls c → IsSince first calls t c
since_now first [] t c image = image
since_now first (call ∷ older) t c image = inl image

-- since this moment there is no other
pub now_only : (first : List ℕ) (calls : List DiskCall) (c : List ℕ) → IsSince first calls (length calls) c → IsImage first calls c
now_only first [] c image = image
now_only first (call ∷ older) c (inl image) = image
now_only first (call ∷ older) c (inr past) = let no : ⊥ = omega (arith, past.0) in absurd no

-- what reads give is an image
pub now_image : (first : List ℕ) (calls : List DiskCall) → IsImage first calls (now_of first calls)
now_image first [] = refl
now_image first (Wrote at bytes ∷ older) = inl refl
now_image first (Shortened n ∷ older) = inl refl
now_image first (Synced ∷ older) = refl

-- the same by what is told
pub some_image : (first : List ℕ) (calls : List DiskCall) (s : List ℕ) → Some (now_of first calls) ≡ Some s → IsImage first calls s
some_image first calls s told = subst (IsImage first calls) (cc) (now_image first calls)

-- what tells nothing tells no content
pub untold : (s : List ℕ) → None ≡ Some s → ⊥
untold s told = cc
