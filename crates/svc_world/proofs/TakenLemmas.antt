-- One command more among the first of a history.
use Rattle.std.proofs.Common.{◌≡◌, ℕ, zero, suc, ◌+◌, List, [], ◌∷◌, ◌++◌, take, refl, sym, ap, ◌∙◌, add-one}
use Rattle.std.specs.Prelude.{slice_get, Option, Some, None}
use Rattle.svc_world.specs.World.{Accepted}
use Rattle.svc_world.specs.Judging.{nth_accepted}

-- a command as a list
unfoldable pub listed : Option Accepted → List Accepted
listed None = []
listed (Some a) = a ∷ []

next_taken : (h : List Accepted) (n : ℕ) → take (suc n) h ≡ take n h ++ listed (slice_get h n)
unfolding listed
next_taken [] zero = refl
next_taken [] (suc n) = refl
next_taken (a ∷ h) zero = refl
next_taken (a ∷ h) (suc n) = ap (λ xs. a ∷ xs) (next_taken h n)

pub taken : (h : List Accepted) (n : ℕ) → take (n + 1) h ≡ take n h ++ listed (nth_accepted h (n + 1))
taken h n = ap (λ k. take k h) (add-one n) ∙ next_taken h n ∙ ap (λ k. take n h ++ listed (nth_accepted h k)) (sym (add-one n))
