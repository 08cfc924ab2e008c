-- What a crash leaves by its choice is one of the images.
use Rattle.std.proofs.Common.{◌≡◌, ℕ, ◌+◌, ◌-◌, ◌<◌, ◌≤◌, min, max, Bool, true, false, List, [], ◌∷◌, length, get_or, take, drop, sym, ap, subst, ◌∙◌, refl, inl, inr, ⊎_elim, arith, length-drop, length-take}
use Rattle.std.specs.Prelude.{replicate}
use Rattle.std.proofs.lemmas.List.{same_lists, get_or-take, get_or-drop, take-take, take_all, take_min, drop_all, length-replicate, length-take-le}
use Rattle.std.proofs.lemmas.Bool.{cases_lt}
use Rattle.serv_images.specs.declared.torn.Torn.{Torn}
use Rattle.serv_images.specs.declared.torn.Torn.TheVariants.{Old, New, Zero, Ones}
use Rattle.serv_images.specs.CutShort.{TornAt}
use Rattle.serv_images.specs.DiskCalls.{DiskCall, Wrote, Shortened, Synced, written, now_of, synced_of, AreWithin, IsImage}
use Rattle.serv_images.specs.Crashes.{laid, torn_write, torn_file, crash_size, crashed}
use Rattle.serv_images.proofs.TearLemmas.{length_written, length_laid, laid_before, laid_inside, laid_after, length_sized, sized_same, take_sized}

-- bytes that are laid leave the same before and after them
laid_torn : (at : ℕ) (bytes file : List ℕ) → TornAt at (length bytes) file (laid at bytes file)
laid_torn at bytes file = record {
  before = same_lists _ _ (length-take at (laid at bytes file) ∙ ap (min at) (length_laid at bytes file) ∙ sym (length-take at file))
      (λ k d h. let below : k < at = omega (arith, h, length-take at (laid at bytes file)) in
      let within : k < length file = omega (arith, h, length-take at (laid at bytes file), length_laid at bytes file) in
      get_or-take at (laid at bytes file) k d below ∙ laid_before at bytes file k d below within ∙ sym (get_or-take at file k d below));
  after = same_lists _ _ (length-drop (at + length bytes) (laid at bytes file) ∙ ap (λ n. n - (at + length bytes)) (length_laid at bytes file) ∙ sym (length-drop (at + length bytes) file))
      (λ k d h. let within : at + length bytes + k < length file = omega (arith, h, length-drop (at + length bytes) (laid at bytes file), length_laid at bytes file) in
      get_or-drop (at + length bytes) (laid at bytes file) k d ∙ laid_after at bytes file (at + length bytes + k) d (omega arith) within
      ∙ sym (get_or-drop (at + length bytes) file k d));
  size = inl (length_laid at bytes file);
}

-- what is left of a write
tear_torn : (torn : Torn) (at : ℕ) (bytes file : List ℕ) → TornAt at (length bytes) file (torn_write torn at bytes file)
tear_torn Old at bytes file = record { before = refl; after = refl; size = inl refl }
tear_torn New at bytes file = laid_torn at bytes file
tear_torn Zero at bytes file = subst (λ n. TornAt at n file (laid at (replicate (length bytes) 0) file)) (length-replicate (length bytes) 0) (laid_torn at (replicate (length bytes) 0) file)
tear_torn Ones at bytes file = subst (λ n. TornAt at n file (laid at (replicate (length bytes) 255) file)) (length-replicate (length bytes) 255) (laid_torn at (replicate (length bytes) 255) file)

length_tear : (torn : Torn) (at : ℕ) (bytes file : List ℕ) → length (torn_write torn at bytes file) ≡ length file
length_tear Old at bytes file = refl
length_tear New at bytes file = length_laid at bytes file
length_tear Zero at bytes file = length_laid at (replicate (length bytes) 0) file
length_tear Ones at bytes file = length_laid at (replicate (length bytes) 255) file

-- a front of a file over which bytes are laid
take_laid : (m at : ℕ) (bytes file : List ℕ) → m ≤ length file → take m (laid at bytes file) ≡ laid at bytes (take m file)
take_laid m at bytes file within =
    let all : List ℕ = laid at bytes file in
    let front : List ℕ = take m file in
    let long : length all ≡ length file = length_laid at bytes file in
    let short : length front ≡ m = length-take-le m file within in
    same_lists _ _ (length-take-le m all (omega arith) ∙ sym short ∙ sym (length_laid at bytes front))
    (λ k d h. let here : k < m = omega (arith, h, length-take-le m all (omega arith)) in
    let back : get_or front k d ≡ get_or file k d = get_or-take m file k d here in
    get_or-take m all k d here ∙ ⊎_elim
    (λ (before : k < at). laid_before at bytes file k d before (omega arith) ∙ sym back ∙ sym (laid_before at bytes front k d before (omega arith)))
    (λ (from : at ≤ k). ⊎_elim
    (λ (to : k < at + length bytes). laid_inside at bytes file k d from to (omega arith) ∙ sym (laid_inside at bytes front k d from to (omega arith)))
    (λ (after : at + length bytes ≤ k). laid_after at bytes file k d after (omega arith) ∙ sym back ∙ sym (laid_after at bytes front k d after (omega arith)))
    (cases_lt k (at + length bytes)))
    (cases_lt k at))

take_tear : (torn : Torn) (m at : ℕ) (bytes file : List ℕ) → m ≤ length file → take m (torn_write torn at bytes file) ≡ torn_write torn at bytes (take m file)
take_tear Old m at bytes file within = refl
take_tear New m at bytes file within = take_laid m at bytes file within
take_tear Zero m at bytes file within = take_laid m at (replicate (length bytes) 0) file within
take_tear Ones m at bytes file within = take_laid m at (replicate (length bytes) 255) file within

length_torn : (torn : Torn) (synced : List ℕ) (size : ℕ) (calls : List DiskCall) → length (torn_file torn synced size calls) ≡ size
length_torn torn synced size [] = length_sized size synced
length_torn torn synced size (Wrote at bytes ∷ older) = length_tear torn at bytes (torn_file torn synced size older) ∙ length_torn torn synced size older
length_torn torn synced size (Shortened n ∷ older) = length_torn torn synced size older
length_torn torn synced size (Synced ∷ older) = length_sized size synced

-- a shorter file is the front of a longer one
take_torn : (torn : Torn) (synced : List ℕ) (m size : ℕ) (calls : List DiskCall) → m ≤ size → take m (torn_file torn synced size calls) ≡ torn_file torn synced m calls
take_torn torn synced m size [] le = take_sized m size synced le
take_torn torn synced m size (Wrote at bytes ∷ older) le =
    let file = torn_file torn synced size older in
    take_tear torn m at bytes file (omega (arith, length_torn torn synced size older))
    ∙ ap (torn_write torn at bytes) (take_torn torn synced m size older le)
take_torn torn synced m size (Shortened n ∷ older) le = take_torn torn synced m size older le
take_torn torn synced m size (Synced ∷ older) le = take_sized m size synced le

-- at the length of the last sync: each call leaves the length
image_old : (torn : Torn) (first : List ℕ) (calls : List DiskCall) → IsImage first calls (torn_file torn (synced_of first calls) (length (synced_of first calls)) calls)
image_old torn first [] = sized_same first
image_old torn first (Wrote at bytes ∷ older) =
    let d = torn_file torn (synced_of first older) (length (synced_of first older)) older in
    inr (d, image_old torn first older, tear_torn torn at bytes d)
image_old torn first (Shortened n ∷ older) = inr (torn_file torn (synced_of first older) (length (synced_of first older)) older, image_old torn first older, inl refl)
image_old torn first (Synced ∷ older) = sized_same (now_of first older)

-- a write that reaches the file's new length
grown : (torn : Torn) (at size : ℕ) (bytes d e : List ℕ) → at ≤ length d → size ≡ max (length d) (at + length bytes) → length e ≡ size → take (length d) e ≡ d
    → TornAt at (length bytes) d (torn_write torn at bytes e)
grown torn at size bytes d e within grows long front =
    let own = tear_torn torn at bytes e in
    record {
      before = own.before ∙ sym (take-take at (length d) e within) ∙ ap (take at) front;
      after = own.after ∙ ⊎_elim
          (λ (short : at + length bytes < length d). ap (drop (at + length bytes)) (sym (take_all (length d) e (omega arith)) ∙ front))
          (λ (reaches : length d ≤ at + length bytes). drop_all (at + length bytes) e (omega arith) ∙ sym (drop_all (at + length bytes) d reaches))
          (cases_lt (at + length bytes) (length d));
      size = inr (length_tear torn at bytes e ∙ long ∙ grows);
    }

-- at the length of what reads give: each call takes its length
image_new : (torn : Torn) (first : List ℕ) (calls : List DiskCall) → AreWithin first calls → IsImage first calls (torn_file torn (synced_of first calls) (length (now_of first calls)) calls)
image_new torn first [] within = sized_same first
image_new torn first (Wrote at bytes ∷ older) within =
    let base = synced_of first older in
    let m = length (now_of first older) in
    let size = length (written at bytes (now_of first older)) in
    let grows : size ≡ max m (at + length bytes) = length_written at bytes (now_of first older) within.0 in
    let d = torn_file torn base m older in
    let e = torn_file torn base size older in
    let long : length d ≡ m = length_torn torn base m older in
    inr (
      d,
      image_new torn first older within.1,
      grown torn at size bytes d e (omega (arith, long, within.0)) (omega (arith, long, grows)) (length_torn torn base size older)
          (ap (λ n. take n e) long ∙ take_torn torn base m size older (omega (arith, grows))),
    )
image_new torn first (Shortened n ∷ older) within =
    let base = synced_of first older in
    let now = now_of first older in
    let d = torn_file torn base (length now) older in
    let cut : torn_file torn base (length (take n now)) older ≡ take n d =
    sym (take_torn torn base (length (take n now)) (length now) older (omega (arith, length-take n now)))
    ∙ ap (λ k. take k d) (length-take n now ∙ ap (min n) (sym (length_torn torn base (length now) older))) ∙ take_min n d in
    inr (d, image_new torn first older within, inr cut)
image_new torn first (Synced ∷ older) within = sized_same (now_of first older)

-- the size is one of the two
of_two : (longer : Bool) (P : ℕ → Type 0) (old new : List ℕ) → P (length old) → P (length new) → P (crash_size longer old new)
of_two true P old new at_old at_new = ⊎_elim
    (λ (less : length old < length new). let e : length new ≡ max (length old) (length new) = omega arith in subst P e at_new)
    (λ (more : length new ≤ length old). let e : length old ≡ max (length old) (length new) = omega arith in subst P e at_old)
    (cases_lt (length old) (length new))
of_two false P old new at_old at_new = ⊎_elim
    (λ (less : length old < length new). let e : length old ≡ min (length old) (length new) = omega arith in subst P e at_old)
    (λ (more : length new ≤ length old). let e : length new ≡ min (length old) (length new) = omega arith in subst P e at_new)
    (cases_lt (length old) (length new))

pub crash_image : (torn : Torn) (longer : Bool) (first : List ℕ) (calls : List DiskCall) → AreWithin first calls → IsImage first calls (crashed torn longer first calls)
crash_image torn longer first calls within =
    of_two longer (λ size. IsImage first calls (torn_file torn (synced_of first calls) size calls)) (synced_of first calls) (now_of first calls)
    (image_old torn first calls) (image_new torn first calls within)
