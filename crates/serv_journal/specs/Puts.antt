-- Bytes put after all that is of account, and the commit byte that waits before them, if one does.
use Rattle.std.specs.Prelude.{◌≡◌, ℕ, ◌+◌, List, ◌∷◌, ◌++◌, length, Option, None, Some}
use Rattle.serv_disk.specs.Disks.{Each, LeavesOnly, View}
use Rattle.serv_journal.specs.Bytes.{Starts, Between}

-- the bytes are there in each image, and the commit byte that waited is open
abbrev pub IsPut : Option ℕ → ℕ → List ℕ → (List ℕ → Type 0) → (List ℕ → Type 0) → Type 0
IsPut None at bytes old new = (front : List ℕ) → length front ≡ at
    → Each old (Starts front) → Each new (Starts (front ++ bytes))
IsPut (Some gate) at bytes old new = (front rest : List ℕ) → length front ≡ gate → gate + 1 + length rest ≡ at
    → Each old (Starts (front ++ 0 ∷ rest)) → Each new (Starts (front ++ 1 ∷ (rest ++ bytes)))

-- at each moment until then: what was there, with any commit byte where one waited
abbrev pub IsPutting : {D : Type 0} → (D → View) → Option ℕ → ℕ → D → D → Type 0
IsPutting view None at old new = (front : List ℕ) → length front ≡ at
    → Each (view old).images (Starts front) → LeavesOnly view old new (Starts front)
IsPutting view (Some gate) at old new = (front rest : List ℕ) → length front ≡ gate → gate + 1 + length rest ≡ at
    → Each (view old).images (Starts (front ++ 0 ∷ rest)) → LeavesOnly view old new (Between front rest)
