-- What a scan says of the whole file.
use Rattle.std.proofs.Common.{◌≡◌, ℕ, ◌+◌, ◌≤◌, List, ◌∷◌, ◌++◌, length, take, drop, refl, sym, ap, subst, ◌∙◌, inl, inr, arith, length-append, take-add, Bool, true, false, IsTrue}
use Rattle.std.proofs.lemmas.List.{take-append-drop, length-take-le}
use Rattle.serv_journal.specs.declared.format.Version.{Version}
use Rattle.serv_journal.specs.declared.format.Version.TheVariants.{One, Two}
use Rattle.serv_journal.specs.Bytes.{Starts}
use Rattle.serv_journal.specs.Format.{IsFront, base, records, header}
use Rattle.serv_journal.specs.Reading.{lines_in, placed, IsDamaged, IsBadEnd}
use Rattle.serv_journal.specs.Steps.{IsClosedEnd, IsMarkedEnd}
use Rattle.serv_journal.specs.Scans.{IsPlaced, IsScanned}
use Rattle.serv_journal.specs.Finds.{IsFound, HasForm}
use Rattle.serv_journal.proofs.ByteLemmas.{starts_take}
use Rattle.serv_journal.proofs.ScanLemmas.{length_lines_in}

-- the file, split where the records end
split_at : (version : Version) (at : ℕ) (frames : List (ℕ × List ℕ)) (place : ℕ) (s : List ℕ) → IsScanned version at frames place s
    → s ≡ base (record { front = take at s; version = version }) (lines_in frames) ++ drop place s
unfolding base
split_at version at frames place s scanned = sym (take-append-drop place s) ∙ ap (λ t. t ++ drop place s) scanned.is

end_at : (version : Version) (at : ℕ) (frames : List (ℕ × List ℕ)) (place : ℕ) (s : List ℕ) → at ≤ length s → IsPlaced version at frames place
    → place ≡ length (base (record { front = take at s; version = version }) (lines_in frames))
unfolding base
end_at version at frames place s within so_far =
    omega (arith, so_far.end, length-append (take at s) (records version 1 (lines_in frames)), length-take-le at s within)

pub found_at : (version : Version) (at : ℕ) (frames : List (ℕ × List ℕ)) (place commit : ℕ) (s : List ℕ) → at ≤ length s → IsFront version (take at s)
    → IsPlaced version at frames place → IsScanned version at frames place s → IsClosedEnd version commit (drop place s) → IsFound version frames place commit s
found_at version at frames place commit s within front so_far scanned closed = record {
  form = record { front = take at s; version = version };
  same = refl;
  rest = closed.rest;
  read = record {
    is_form = front;
    fit = so_far.fit;
    closed = closed.closed;
    unmarked = closed.unmarked;
    is = split_at version at frames place s scanned
        ∙ ap (λ t. base (record { front = take at s; version = version }) (lines_in frames) ++ t) closed.is;
  };
  places = so_far.places ∙ ap (λ n. placed version n 1 (lines_in frames)) (sym (length-take-le at s within));
  end = end_at version at frames place s within so_far;
}

pub damaged_at : (version : Version) (at : ℕ) (frames : List (ℕ × List ℕ)) (place : ℕ) (s : List ℕ) → at ≤ length s → IsFront version (take at s)
    → IsPlaced version at frames place → IsScanned version at frames place s → IsBadEnd version (length frames + 1) (drop place s) → IsDamaged place s
damaged_at version at frames place s within front so_far scanned bad = record {
  form = record { front = take at s; version = version };
  lines = lines_in frames;
  is_form = front;
  fit = so_far.fit;
  at = end_at version at frames place s within so_far;
  tail = drop place s;
  is = split_at version at frames place s scanned;
  bad = subst (λ n. IsBadEnd version (n + 1) (drop place s)) (sym (length_lines_in frames)) bad;
}

nine : (mark : ℕ) → length (mark ∷ header Two) ≡ 9
unfolding header
nine mark = refl

-- the mark that ends a part of version 1 ends an upgraded front
pub marked_front : (frames : List (ℕ × List ℕ)) (place : ℕ) (s : List ℕ) → IsFront One (take 8 s) → IsPlaced One 8 frames place → IsScanned One 8 frames place s
    → IsMarkedEnd One (drop place s) → IsFront Two (take (place + 9) s)
marked_front frames place s front so_far scanned marked =
    let end : take 9 (drop place s) ≡ marked.mark ∷ header Two = starts_take (marked.mark ∷ header Two) (drop place s) 9 (nine marked.mark) marked.starts in
    inr (record {
      lines = lines_in frames;
      mark = marked.mark;
      fit = so_far.fit;
      marked = marked.marked;
      is = take-add place 9 s ∙ (ap (λ t. t ++ take 9 (drop place s)) scanned.is ∙ (ap (λ t. (take 8 s ++ records One 1 (lines_in frames)) ++ t) end
          ∙ ap (λ t. t ++ records One 1 (lines_in frames) ++ marked.mark ∷ header Two) front));
    })

-- the same of the places alone
pub form_two : (at : ℕ) (frames : List (ℕ × List ℕ)) (place : ℕ) (front : List ℕ) → IsFront Two front → length front ≡ at → IsPlaced Two at frames place → HasForm Two frames place
unfolding base
form_two at frames place front is_front long so_far = record {
  form = record { front = front; version = Two };
  same = refl;
  is_form = is_front;
  fit = so_far.fit;
  end = omega (arith, so_far.end, long, length-append front (records Two 1 (lines_in frames)));
}

pub form_one : (frames : List (ℕ × List ℕ)) (place : ℕ) → IsPlaced One 8 frames place → HasForm One frames place
unfolding base header
form_one frames place so_far = record {
  form = record { front = header One; version = One };
  same = refl;
  is_form = refl;
  fit = so_far.fit;
  end = omega (arith, so_far.end, length-append (header One) (records One 1 (lines_in frames)));
}

pub front_marked : (frames : List (ℕ × List ℕ)) (place : ℕ) → IsPlaced One 8 frames place → (front : List ℕ) × IsFront Two front × (length front ≡ place + 9)
unfolding header
front_marked frames place so_far =
    let lines : List (List ℕ) = lines_in frames in (
      header One ++ records One 1 lines ++ 2 ∷ header Two,
      inr (record { lines = lines; mark = 2; fit = so_far.fit; marked = (λ e. omega (arith, e)); is = refl }),
      omega (arith, so_far.end, length-append (header One ++ records One 1 lines) (2 ∷ header Two), length-append (header One) (records One 1 lines)),
    )

pub front_new : (front : List ℕ) × IsFront Two front × (length front ≡ 8)
unfolding header
front_new = (header Two, inl refl, refl)

pub header_length : (version : Version) → length (header version) ≡ 8
unfolding header
header_length One = refl
header_length Two = refl

pub header_taken : (version : Version) (s : List ℕ) → Starts (header version) s → take 8 s ≡ header version
header_taken version s starts = starts_take (header version) s 8 (header_length version) starts

pub no_text : (b : Bool) (P : Type 0) → (P → IsTrue b) → b ≡ false → P → ⊥
no_text b P holds is p = let t : b ≡ true = holds p in let e : ⊥ = cc in e
