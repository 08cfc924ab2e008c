-- What holds of each thing that a loop over a list read holds of all of them.
use Rattle.std.proofs.Common.{◌≡◌, ℕ, ◌+◌, ◌<◌, ◌≤◌, List, length, take, get_or, subst}
use Rattle.std.specs.List.{All}
use Rattle.std.proofs.lemmas.List.{take_all}
use Rattle.std.proofs.lemmas.List.Elements.{All-more}

pub one_more : {X : Type 0} (P : X → Type 0) (xs : List X) (i : ℕ) (x d : X) → x ≡ get_or xs i d → i < length xs → All P (take i xs) → P x → All P (take (i + 1) xs)
one_more P xs i x d is lt all p = All-more P xs i d lt all (subst P is p)

pub at_end : {X : Type 0} (P : X → Type 0) (xs : List X) (i : ℕ) → length xs ≤ i → All P (take i xs) → All P xs
at_end P xs i end all = subst (All P) (take_all i xs end) all
