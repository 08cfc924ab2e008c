-- Bytes put behind a commit byte that waits.
use Rattle.std.proofs.Common.{◌≡◌, ℕ, ◌+◌, ◌≤◌, List, [], ◌∷◌, ◌++◌, Option, Some, None, length, take, drop, refl, ap, subst, arith, append_assoc, length-append, length-take-le}
use Rattle.std.proofs.lemmas.List.{length-drop}
use Rattle.serv_disk.specs.Disks.{Holds, Told, Each, Only, LeavesOnly, View}
use Rattle.serv_disk.proofs.Moments.{weaker, joined}
use Rattle.serv_journal.specs.Bytes.{Starts, Between}
use Rattle.serv_journal.specs.Puts.{IsPut, IsPutting}
use Rattle.serv_journal.proofs.ByteLemmas.{holds_after, holds_byte}

-- bytes written after what reads begin with
pub told_after : (old new : Option (List ℕ)) (front bytes : List ℕ) (at : ℕ) → length front ≡ at → ((s : List ℕ) → old ≡ Some s → Starts front s) → Told old new (Holds at bytes)
    → (s : List ℕ) → new ≡ Some s → Starts (front ++ bytes) s
told_after None new front bytes at long starts told s is = absurd (let e : ⊥ = cc in e)
told_after (Some l) None front bytes at long starts told s is = absurd told
told_after (Some l) (Some t) front bytes at long starts told s is =
    let same : t ≡ s = cc in
    subst (λ x. Starts (front ++ bytes) x) same (holds_after front bytes l t at (starts l refl) long told)

-- one byte written between what reads begin with and what comes after it
told_set : (old new : Option (List ℕ)) (front rest : List ℕ) (at value : ℕ) → length front ≡ at → ((s : List ℕ) → old ≡ Some s → Between front rest s) → Told old new (Holds at (value ∷ []))
    → (s : List ℕ) → new ≡ Some s → Starts (front ++ value ∷ rest) s
told_set None new front rest at value long between told s is = absurd (let e : ⊥ = cc in e)
told_set (Some l) None front rest at value long between told s is = absurd told
told_set (Some l) (Some t) front rest at value long between told s is =
    let same : t ≡ s = cc in
    subst (λ x. Starts (front ++ value ∷ rest) x) same (holds_byte front rest l t at value (between l refl) long told)

-- what reads give reaches past what was written
pub told_reaches : (old new : Option (List ℕ)) (bytes : List ℕ) (at next : ℕ) → ((s : List ℕ) → old ≡ Some s → at ≤ length s) → Told old new (Holds at bytes) → next ≤ at + length bytes
    → (s : List ℕ) → new ≡ Some s → next ≤ length s
told_reaches None new bytes at next reach told less s is = absurd (let e : ⊥ = cc in e)
told_reaches (Some l) None bytes at next reach told less s is = absurd told
told_reaches (Some l) (Some t) bytes at next reach told less s is =
    let same : t ≡ s = cc in
    omega (arith, ap length same, ap length told, length-append (take at l ++ bytes) (drop (at + length bytes) l), length-append (take at l) bytes, length-take-le at l (reach l refl), less)

-- and as far as before
pub still_reaches : (old new : Option (List ℕ)) (bytes : List ℕ) (at next : ℕ) → at ≤ next → ((s : List ℕ) → old ≡ Some s → next ≤ length s) → Told old new (Holds at bytes)
    → (s : List ℕ) → new ≡ Some s → next ≤ length s
still_reaches None new bytes at next within reach told s is = absurd (let e : ⊥ = cc in e)
still_reaches (Some l) None bytes at next within reach told s is = absurd told
still_reaches (Some l) (Some t) bytes at next within reach told s is =
    let same : t ≡ s = cc in
    let long : length (take at l) ≡ at = length-take-le at l (omega (arith, within, reach l refl)) in
    omega (
      arith,
      ap length same,
      ap length told,
      length-append (take at l ++ bytes) (drop (at + length bytes) l),
      length-append (take at l) bytes,
      length-drop (at + length bytes) l,
      long,
      reach l refl,
    )

long_behind : (front rest : List ℕ) (gate at : ℕ) → length front ≡ gate → gate + 1 + length rest ≡ at → length (front ++ 0 ∷ rest) ≡ at
long_behind front rest gate at long size = omega (arith, long, size, length-append front (0 ∷ rest))

-- after the sync each image is what reads give
pub put_opened : (seen_old seen_mid seen_new : Option (List ℕ)) (images images' : List ℕ → Type 0) (gate at : ℕ) (bytes : List ℕ) → ((s : List ℕ) → seen_old ≡ Some s → images s)
    → Told seen_old seen_mid (Holds at bytes) → Told seen_mid seen_new (Holds gate (1 ∷ [])) → Only seen_new images' → IsPut (Some gate) at bytes images images'
put_opened seen_old seen_mid seen_new images images' gate at bytes reads laid set only = λ front rest long size each c h.
    told_set seen_mid seen_new front (rest ++ bytes) gate 1 long
    (λ m is. record {
      byte = 0;
      starts = subst (λ x. Starts x m) (append_assoc front (0 ∷ rest) bytes)
          (told_after seen_old seen_mid (front ++ 0 ∷ rest) bytes at (long_behind front rest gate at long size) (λ s e. each s (reads s e)) laid m is);
    })
    set c (only c h)

module _ {D : Type 0} (view : D → View) where
  -- while the bytes are laid, and then while the commit byte is set
  pub laying_around : (gate at : ℕ) (old mid : D)
      → ((front : List ℕ) → length front ≤ at → Each (view old).images (Starts front) → LeavesOnly view old mid (Starts front))
      → IsPutting view (Some gate) at old mid
  laying_around gate at old mid moments = λ front rest long size each.
      weaker view old mid _ _ (moments (front ++ 0 ∷ rest) (omega (arith, long_behind front rest gate at long size)) each) (λ c h. record { byte = 0; starts = h })

  pub opening_around : (gate at : ℕ) (old mid new : D)
      → ((front : List ℕ) → length front ≤ at → Each (view old).images (Starts front) → Each (view mid).images (Starts front))
      → ((front : List ℕ) → length front ≤ at → Each (view old).images (Starts front) → LeavesOnly view old mid (Starts front))
      → ((front rest : List ℕ) → length front ≡ gate → Each (view mid).images (Between front rest) → LeavesOnly view mid new (Between front rest))
      → IsPutting view (Some gate) at old new
  opening_around gate at old mid new crash moments set = λ front rest long size each.
      joined view old mid new _ (laying_around gate at old mid moments front rest long size each)
      (set front rest long (λ c h. record { byte = 0; starts = crash (front ++ 0 ∷ rest) (omega (arith, long_behind front rest gate at long size)) each c h }))

-- bytes laid before that leave what the file begins with
pub put_later : (gate : Option ℕ) (at : ℕ) (bytes : List ℕ) (images mid new : List ℕ → Type 0) → ((front : List ℕ) → length front ≤ at → Each images (Starts front) → Each mid (Starts front))
    → IsPut gate at bytes mid new → IsPut gate at bytes images new
put_later None at bytes images mid new crash put = λ front long each. put front long (crash front (omega (arith, long)) each)
put_later (Some gate) at bytes images mid new crash put = λ front rest long size each.
    put front rest long size (crash (front ++ 0 ∷ rest) (omega (arith, long_behind front rest gate at long size)) each)

module _ {D : Type 0} (view : D → View) where
  -- while they are laid
  pub before_putting : (gate : Option ℕ) (at : ℕ) (old mid : D)
      → ((front : List ℕ) → length front ≤ at → Each (view old).images (Starts front) → LeavesOnly view old mid (Starts front))
      → IsPutting view gate at old mid
  before_putting None at old mid moments = λ front long each. moments front (omega (arith, long)) each
  before_putting (Some gate) at old mid moments = laying_around view gate at old mid moments

  pub putting_later : (gate : Option ℕ) (at : ℕ) (old mid new : D)
      → ((front : List ℕ) → length front ≤ at → Each (view old).images (Starts front) → Each (view mid).images (Starts front))
      → ((front : List ℕ) → length front ≤ at → Each (view old).images (Starts front) → LeavesOnly view old mid (Starts front))
      → IsPutting view gate at mid new → IsPutting view gate at old new
  putting_later None at old mid new crash moments putting = λ front long each.
      joined view old mid new _ (moments front (omega (arith, long)) each) (putting front long (crash front (omega (arith, long)) each))
  putting_later (Some gate) at old mid new crash moments putting = λ front rest long size each.
      joined view old mid new _ (laying_around view gate at old mid moments front rest long size each)
      (putting front rest long size (crash (front ++ 0 ∷ rest) (omega (arith, long_behind front rest gate at long size)) each))
