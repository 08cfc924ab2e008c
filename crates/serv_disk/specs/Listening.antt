-- Which links come, in their order, and which were handed back.
use Rattle.std.specs.Prelude.{◌≡◌, List, [], ◌∷◌, ◌++◌, Option, Some, None}

-- the first link to come is given; none is given exactly where no link is to come
abbrev pub IsNext : {C : Type 0} → Option (List C) → Option (List C) → Option C → Type 0
IsNext None new link = new ≡ None
IsNext (Some old) None link = ⊥
IsNext (Some old) (Some new) None = (old ≡ []) × (new ≡ [])
IsNext (Some old) (Some new) (Some link) = old ≡ link ∷ new

-- this link is added to those that were handed back
abbrev pub IsBack : {C : Type 0} → Option (List C) → Option (List C) → C → Type 0
IsBack None new link = new ≡ None
IsBack (Some old) None link = ⊥
IsBack (Some old) (Some new) link = new ≡ old ++ link ∷ []
