-- A record laid out in a room.
use Rattle.std.proofs.Common.{◌≡◌, ℕ, ◌+◌, List, [], ◌∷◌, ◌++◌, length, drop, set, refl, sym, ap, ◌∙◌, arith, append_assoc, length-append}
use Rattle.std.proofs.lemmas.List.{take_at, drop_at, length-drop, set_at}
use borrow.Rule.Slice.PartMut.{put_mid, post_of}

one_left : (t : List ℕ) → length t ≡ 1 → (x : ℕ) × (t ≡ x ∷ [])
one_left [] long = absurd (omega (arith, long))
one_left (x ∷ []) long = (x, refl)
one_left (x ∷ y ∷ t) long = absurd (omega (arith, long))

-- a head, a line and a byte, written one after the other
pub laid_is : (head line room : List ℕ) (k next : ℕ) → length head ≡ 6 → k ≡ length line → length room ≡ 7 + length line
    → set (put_mid 6 k (head ++ drop 6 room) line) (6 + length line) next ≡ head ++ line ++ next ∷ []
laid_is head line room k next six same long =
    let whole : List ℕ = head ++ drop 6 room in
    let after : drop 6 whole ≡ drop 6 room = drop_at head (drop 6 room) 6 six in
    let last = one_left (drop k (drop 6 room)) (omega (arith, length-drop k (drop 6 room), length-drop 6 room)) in
    let post : post_of 6 k whole ≡ last.0 ∷ [] = ap (drop k) after ∙ last.1 in
    let put : put_mid 6 k whole line ≡ (head ++ line) ++ last.0 ∷ [] =
    ap (λ t. t ++ (line ++ post_of 6 k whole)) (take_at head (drop 6 room) 6 six) ∙ (ap (λ t. head ++ (line ++ t)) post ∙ sym (append_assoc head line (last.0 ∷ []))) in
    ap (λ t. set t (6 + length line) next) put ∙ set_at (head ++ line) last.0 [] next (6 + length line) (omega (arith, length-append head line))
