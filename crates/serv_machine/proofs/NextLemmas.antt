-- The next command of a history that goes on.
use Rattle.std.proofs.Common.{◌≡◌, List, [], ◌∷◌, ◌++◌, length, drop, refl, sym, ap, ◌∙◌, arith, append_assoc, length-append}
use Rattle.std.proofs.lemmas.List.{drop_at}
use Rattle.svc_world.specs.World.{Accepted}

-- no list has a command more than it has
pub no_more : (h rest : List Accepted) (next : Accepted) → h ≡ h ++ next ∷ rest → ⊥
no_more h rest next is = omega (arith, ap length is, length-append h (next ∷ rest))

same_behind : (h xs ys : List Accepted) → h ++ xs ≡ h ++ ys → xs ≡ ys
same_behind h xs ys is = sym (drop_at h xs (length h) refl) ∙ ap (drop (length h)) is ∙ drop_at h ys (length h) refl

-- where one command and others follow, it is the next
pub next_is : (kept more rest : List Accepted) (a next : Accepted) → (kept ++ a ∷ []) ++ more ≡ kept ++ next ∷ rest → next ≡ a
next_is kept more rest a next is =
    let behind : a ∷ more ≡ next ∷ rest = same_behind kept (a ∷ more) (next ∷ rest) (sym (append_assoc kept (a ∷ []) more) ∙ is) in
    cc
