-- What a crash leaves of one call more of a disk in memory.
use Rattle.std.proofs.Common.{◌≡◌, ℕ, ◌+◌, ◌≤◌, List, ◌∷◌, ◌++◌, length, take, drop, sym, ap, subst, ◌∙◌, inl, inr, length-append, length-take-le}
use Rattle.std.proofs.lemmas.List.{append_assoc, take_at, drop_at}
use Rattle.serv_disk.specs.Disks.{Each, After}
use Rattle.serv_images.specs.CutShort.{TornAt, Cut}
use Rattle.serv_images.specs.DiskCalls.{DiskCall, Wrote, Shortened, Synced, written, now_of, IsImage}
use Rattle.serv_disk.specs.DiskLaws.{now_image}
use Rattle.serv_images.proofs.TearLemmas.{length_written}

-- a whole write is one that may have been cut short
pub written_torn : (at : ℕ) (bytes file : List ℕ) → at ≤ length file → TornAt at (length bytes) file (written at bytes file)
written_torn at bytes file within =
    let front : length (take at file) ≡ at = length-take-le at file within in
    record {
      before = ap (take at) (append_assoc (take at file) bytes (drop (at + length bytes) file)) ∙ take_at (take at file) (bytes ++ drop (at + length bytes) file) at front;
      after = drop_at (take at file ++ bytes) (drop (at + length bytes) file) (at + length bytes) (length-append (take at file) bytes ∙ ap (λ n. n + length bytes) front);
      size = inr (length_written at bytes file within);
    }

wrote_image : (first : List ℕ) (older : List DiskCall) (at : ℕ) (bytes : List ℕ) → at ≤ length (now_of first older)
    → Each (IsImage first (Wrote at bytes ∷ older)) (After (TornAt at (length bytes)) (IsImage first older))
wrote_image first older at bytes within c (inl now) =
    let file = now_of first older in
    (file, now_image first older, subst (TornAt at (length bytes) file) (sym now) (written_torn at bytes file within))
wrote_image first older at bytes within c (inr torn) = torn

cut_image : (first : List ℕ) (older : List DiskCall) (n : ℕ) → Each (IsImage first (Shortened n ∷ older)) (After (Cut n) (IsImage first older))
cut_image first older n c (inl now) = (now_of first older, now_image first older, inr now)
cut_image first older n c (inr cut) = cut

pub wrote_crash : (first first' : List ℕ) (made made' : List DiskCall) (at : ℕ) (bytes : List ℕ) → at ≤ length (now_of first made) → first' ≡ first → made' ≡ Wrote at bytes ∷ made
    → Each (IsImage first' made') (After (TornAt at (length bytes)) (IsImage first made))
wrote_crash first first' made made' at bytes within same more c image =
    wrote_image first made at bytes within c (subst (λ m. IsImage first m c) more (subst (λ f. IsImage f made' c) same image))

pub cut_crash : (first first' : List ℕ) (made made' : List DiskCall) (n : ℕ) → first' ≡ first → made' ≡ Shortened n ∷ made
    → Each (IsImage first' made') (After (Cut n) (IsImage first made))
cut_crash first first' made made' n same more c image =
    cut_image first made n c (subst (λ m. IsImage first m c) more (subst (λ f. IsImage f made' c) same image))

pub sync_crash : (first first' : List ℕ) (made made' : List DiskCall) → first' ≡ first → made' ≡ Synced ∷ made
    → Each (IsImage first' made') (IsImage first made)
sync_crash first first' made made' same more c image =
    let now : c ≡ now_of first made = subst (λ m. IsImage first m c) more (subst (λ f. IsImage f made' c) same image) in
    subst (IsImage first made) (sym now) (now_image first made)
