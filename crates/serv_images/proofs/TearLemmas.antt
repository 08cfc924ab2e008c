-- Bytes laid over a file within its length, by places.
use Rattle.std.proofs.Common.{◌≡◌, ℕ, ◌+◌, ◌-◌, ◌<◌, ◌≤◌, min, max, List, ◌++◌, length, get_or, take, drop, ap, ◌∙◌, arith, length-append, length-drop, length-take}
use Rattle.std.proofs.lemmas.List.{places, same_lists, length-replicate}
use borrow.Rule.Slice.PartMut.{put_mid}
use Rattle.serv_images.specs.Crashes.{laid, sized}
use Rattle.serv_images.specs.DiskCalls.{written}

pub length_written : (at : ℕ) (bytes file : List ℕ) → at ≤ length file → length (written at bytes file) ≡ max (length file) (at + length bytes)
length_written at bytes file within = simp (length-append, length-take, length-drop) (omega arith)

pub length_laid : (at : ℕ) (bytes file : List ℕ) → length (laid at bytes file) ≡ length file
length_laid at bytes file = simp (length-append, length-take, length-drop) (omega arith)

pub laid_before : (at : ℕ) (bytes file : List ℕ) (k d : ℕ) → k < at → k < length file → get_or (laid at bytes file) k d ≡ get_or file k d
laid_before at bytes file k d before within = grind (arith, places)

pub laid_inside : (at : ℕ) (bytes file : List ℕ) (k d : ℕ) → at ≤ k → k < at + length bytes → k < length file → get_or (laid at bytes file) k d ≡ get_or bytes (k - at) d
laid_inside at bytes file k d from to within = grind (arith, places)

pub laid_after : (at : ℕ) (bytes file : List ℕ) (k d : ℕ) → at + length bytes ≤ k → k < length file → get_or (laid at bytes file) k d ≡ get_or file k d
laid_after at bytes file k d after within = grind (arith, places)

pub length_sized : (size : ℕ) (file : List ℕ) → length (sized size file) ≡ size
length_sized size file = simp (length-append, length-take, length-replicate) (omega arith)

pub sized_same : (file : List ℕ) → sized (length file) file ≡ file
sized_same file = same_lists _ _ (length_sized (length file) file) (λ k d h. grind (arith, places))

pub take_sized : (m size : ℕ) (file : List ℕ) → m ≤ size → take m (sized size file) ≡ sized m file
take_sized m size file le = same_lists _ _ (simp (length-append, length-take, length-replicate) (omega arith)) (λ k d h. grind (arith, places))

-- a part of a slice is written with what the file has room for
part_laid : (at n : ℕ) (bytes file : List ℕ) → at ≤ length file → n ≡ min (length bytes) (length file - at)
    → take at file ++ (take n bytes ++ drop n (drop at file)) ≡ laid at bytes file
part_laid at n bytes file within count =
    same_lists _ _ (simp (length-append, length-take, length-drop) (omega arith)) (λ j d h. grind (arith, places))

pub put_laid : (at k n : ℕ) (bytes new file : List ℕ) → at ≤ length file → k ≡ n → n ≡ min (length bytes) (length file - at) → new ≡ take n bytes → put_mid at k file new ≡ laid at bytes file
put_laid at k n bytes new file within part count is =
    ap (λ ys. put_mid at k file ys) is ∙ ap (λ m. put_mid at m file (take n bytes)) part ∙ part_laid at n bytes file within count
