-- Runs of reads through a window, and what the bytes that were read say of the file.
use Rattle.std.proofs.Common.{◌≡◌, ℕ, ◌+◌, ◌-◌, ◌*◌, ◌/◌, ◌%◌, ◌<◌, ◌≤◌, List, [], ◌∷◌, ◌++◌, Option, Some, None, MatchOption, ◌≢◌, append_assoc, length, take, drop, get_or, refl, sym, ap, subst, ◌∙◌, inl, inr, ⊎_elim, arith}
use Rattle.std.proofs.lemmas.List.{take_at, take-take, drop-take, take_all, length-take, length-drop, drop_at, drop-drop}
use Rattle.std.proofs.lemmas.Bool.{cases_lt}
use Rattle.serv_journal.specs.declared.format.Version.TheVariants.{Two}
use Rattle.serv_disk.specs.Faults.{HasRisen}
use Rattle.serv_journal.specs.declared.faults.JournalFault.{JournalFault}
use Rattle.serv_journal.specs.Bytes.{Starts, piece}
use Rattle.serv_journal.specs.Format.{two_bytes, four_bytes, body}
use Rattle.serv_journal.specs.Reading.{IsBadLine, IsBadRecord}
use Rattle.serv_journal.specs.Outcomes.{IsPassing}
use Rattle.serv_journal.specs.Windows.{WindowState, Shows, ShowsTold, IsReading}
use Rattle.serv_journal.proofs.ByteLemmas.{taken_starts, starts_fits}
use Rattle.serv_journal.proofs.UniqueLemmas.{four_same}
use Rattle.serv_journal.proofs.StaysLemmas.{stays_here, stays_on}
use Rattle.serv_disk.specs.Disks.{View}

module _ {D : Type 0} (view : D → View) (faults : D → ℕ) where
  pub reading_here : (old : D) (window : WindowState) → ((c : List ℕ) → (view old).since (view old).moment c → (view old).images c) → ShowsTold (view old).seen window
      → IsReading view faults old old window window
  reading_here old window here shows = record { stays = stays_here view old here; later = omega arith; size = refl; shows = shows }

  pub reading_on : (old mid new : D) (before between after : WindowState) → IsReading view faults old mid before between
      → IsReading view faults mid new between after → IsReading view faults old new before after
  reading_on old mid new before between after first second = record {
    stays = stays_on view old mid new first.stays second.stays;
    later = omega (arith, first.later, second.later);
    size = second.size ∙ first.size;
    shows = second.shows;
  }

pub risen_from : (old mid new : ℕ) → old ≤ mid → mid ≤ new → HasRisen mid new → HasRisen old new
risen_from old mid new later end risen =
    ⊎_elim
    (λ less. inl (omega arith))
    (λ top. ⊎_elim (λ less. inl (omega arith)) (λ same. inr (omega arith)) (cases_lt old mid))
    risen

pub passing_from : (old mid new : ℕ) (fault : JournalFault) → old ≤ mid → mid ≤ new → IsPassing mid new fault → IsPassing old new fault
passing_from old mid new fault later end passing =
    ⊎_elim (λ memory. inl memory) (λ disk. inr (disk.0, risen_from old mid new later end disk.1)) passing

pub window_shown : (buf post rest : List ℕ) (count n : ℕ) → length buf ≡ count → buf ≡ take n rest
    → take count (buf ++ post) ≡ take (length (take count (buf ++ post))) rest
window_shown buf post rest count n long is =
    let first : take count (buf ++ post) ≡ buf = take_at buf post count long in
    let fits : length buf ≤ n = omega (arith, ap length is, length-take n rest) in
    let same : buf ≡ take (length buf) rest = sym (take_all (length buf) buf (omega arith)) ∙ (ap (take (length buf)) is ∙ take-take (length buf) n rest fits) in
    first ∙ subst (λ t. buf ≡ take (length t) rest) (sym first) same

pub two_is : (a b : ℕ) → b < 256 → two_bytes (a * 256 + b) ≡ a ∷ b ∷ []
unfolding two_bytes
two_is a b less =
    let high : (a * 256 + b) / 256 ≡ a = omega arith in
    let low : (a * 256 + b) % 256 ≡ b = omega arith in
    cc

digit : (a b : ℕ) → b < 256 → ((a * 256 + b) / 256 ≡ a) × ((a * 256 + b) % 256 ≡ b)
digit a b less = (omega arith, omega arith)

four_parts : (a b c d n x y : ℕ) → b < 256 → c < 256 → d < 256 → x ≡ a * 256 + b → y ≡ x * 256 + c → n ≡ y * 256 + d
    → (n / 256 / 256 / 256) ∷ (n / 256 / 256 % 256) ∷ (n / 256 % 256) ∷ (n % 256) ∷ [] ≡ a ∷ b ∷ c ∷ d ∷ []
four_parts a b c d n x y p q r ex ey en =
    let n1 : n / 256 ≡ y = ap (λ k. k / 256) en ∙ (digit y d r).0 in
    let d1 : n % 256 ≡ d = ap (λ k. k % 256) en ∙ (digit y d r).1 in
    let y1 : y / 256 ≡ x = ap (λ k. k / 256) ey ∙ (digit x c q).0 in
    let c1 : y % 256 ≡ c = ap (λ k. k % 256) ey ∙ (digit x c q).1 in
    let x1 : x / 256 ≡ a = ap (λ k. k / 256) ex ∙ (digit a b p).0 in
    let b1 : x % 256 ≡ b = ap (λ k. k % 256) ex ∙ (digit a b p).1 in
    let n2 : n / 256 / 256 ≡ x = ap (λ k. k / 256) n1 ∙ y1 in
    let n3 : n / 256 / 256 / 256 ≡ a = ap (λ k. k / 256) n2 ∙ x1 in
    let m1 : n / 256 % 256 ≡ c = ap (λ k. k % 256) n1 ∙ c1 in
    let m2 : n / 256 / 256 % 256 ≡ b = ap (λ k. k % 256) n2 ∙ b1 in
    cc

pub four_is : (a b c d : ℕ) → b < 256 → c < 256 → d < 256 → four_bytes (((a * 256 + b) * 256 + c) * 256 + d) ≡ a ∷ b ∷ c ∷ d ∷ []
unfolding four_bytes
four_is a b c d p q r = four_parts a b c d (((a * 256 + b) * 256 + c) * 256 + d) (a * 256 + b) ((a * 256 + b) * 256 + c) p q r refl refl refl

two_items : (room : List ℕ) → length room ≡ 2 → get_or room 0 0 ∷ get_or room 1 0 ∷ [] ≡ room
two_items [] long = absurd (omega (arith, long))
two_items (a ∷ []) long = absurd (omega (arith, long))
two_items (a ∷ b ∷ []) long = refl
two_items (a ∷ b ∷ c ∷ t) long = absurd (omega (arith, long))

four_items : (room : List ℕ) → length room ≡ 4 → get_or room 0 0 ∷ get_or room 1 0 ∷ get_or room 2 0 ∷ get_or room 3 0 ∷ [] ≡ room
four_items [] long = absurd (omega (arith, long))
four_items (a ∷ []) long = absurd (omega (arith, long))
four_items (a ∷ b ∷ []) long = absurd (omega (arith, long))
four_items (a ∷ b ∷ c ∷ []) long = absurd (omega (arith, long))
four_items (a ∷ b ∷ c ∷ d ∷ []) long = refl
four_items (a ∷ b ∷ c ∷ d ∷ e ∷ t) long = absurd (omega (arith, long))

-- a number that was read stands in the file
pub two_found : (room rest : List ℕ) (n : ℕ) → length room ≡ 2 → room ≡ take 2 rest → two_bytes n ≡ get_or room 0 0 ∷ get_or room 1 0 ∷ [] → Starts (two_bytes n) rest
two_found room rest n long is number = taken_starts (two_bytes n) rest 2 (sym (number ∙ (two_items room long ∙ is)))

pub four_found : (room rest : List ℕ) (n : ℕ) → length room ≡ 4 → room ≡ take 4 rest
    → four_bytes n ≡ get_or room 0 0 ∷ get_or room 1 0 ∷ get_or room 2 0 ∷ get_or room 3 0 ∷ [] → Starts (four_bytes n) rest
four_found room rest n long is number = taken_starts (four_bytes n) rest 4 (sym (number ∙ (four_items room long ∙ is)))

-- a part of what a window holds is that part of the file
pub part_shown : (bytes file : List ℕ) (n at place : ℕ) → bytes ≡ take (length bytes) (drop at file) → at ≤ place → place + n ≤ at + length bytes → take n (drop (place - at) bytes) ≡ take n (drop place file)
part_shown bytes file n at place is from to =
    let k = place - at in
    let m = length bytes - k in
    let whole : length bytes ≡ k + m = omega arith in
    let here : k + at ≡ place = omega arith in
    ap (λ xs. take n (drop k xs)) (is ∙ ap (λ x. take x (drop at file)) whole)
    ∙ ap (take n) (drop-take k m (drop at file))
    ∙ take-take n m (drop k (drop at file)) (omega arith)
    ∙ ap (take n) (drop-drop k at file ∙ ap (λ x. drop x file) (omega arith))

-- the line of a record at a place, as a window holds it
pub line_shown : (window : WindowState) (file : List ℕ) (place start n count : ℕ) (line : List ℕ) → Shows window file → start ≡ place + 1 + n
    → window.at ≤ place + 1 + n → place + 1 + n + count ≤ window.at + length window.bytes → line ≡ take count (drop (start - window.at) window.bytes)
    → line ≡ piece (1 + n) count (drop place file)
line_shown window file place start n count line shows start_is from to is =
    let after : start ≡ place + (1 + n) = omega (arith, start_is) in
    is ∙ (part_shown window.bytes file count window.at start shows.bytes (omega (arith, start_is, from)) (omega (arith, start_is, to))
    ∙ ap (take count) (ap (λ k. drop k file) after ∙ sym (drop-drop (1 + n) place file)))

-- a list, and what comes after it
pub follows : (front rest file : List ℕ) (n : ℕ) → length front ≡ n → Starts front file → Starts rest (drop n file) → Starts (front ++ rest) file
follows front rest file n long first second =
    let tail : drop n file ≡ first.tail = rw first.is (drop_at front first.tail n long) in
    record {
      tail = second.tail;
      is = first.is ∙ (ap (λ t. front ++ t) (sym tail ∙ second.is) ∙ sym (append_assoc front rest second.tail));
    }

-- bytes that are too few for a text
pub too_few : (text rest : List ℕ) → length rest < length text → Starts text rest → ⊥
too_few text rest few starts = omega (arith, starts_fits text rest starts)

pub line_found : (s : List ℕ) (place count : ℕ) → Starts (two_bytes count) (drop place s) → place + 2 + count ≤ length s
    → Starts (two_bytes (length (piece 2 count (drop place s))) ++ piece 2 count (drop place s)) (drop place s)
unfolding two_bytes
line_found s place count number fits =
    let rest : List ℕ = drop place s in
    let line : List ℕ = piece 2 count rest in
    let long : length line ≡ count = omega (arith, length-take count (drop 2 rest), length-drop 2 rest, length-drop place s, fits) in
    let after : Starts line (drop 2 rest) = taken_starts line (drop 2 rest) count refl in
    follows (two_bytes (length line)) line rest 2 refl (subst (λ n. Starts (two_bytes n) rest) (sym long) number) after

-- a record of version 2, read as its line after its number
pub numbered_found : (s : List ℕ) (place number : ℕ) (found : Option ℕ) → Starts (four_bytes number) (drop place s)
    → MatchOption found (IsBadLine (drop (place + 4) s)) (λ count. Starts (two_bytes (length (piece 2 count (drop (place + 4) s))) ++ piece 2 count (drop (place + 4) s)) (drop (place + 4) s))
    → MatchOption found (IsBadRecord Two number (drop place s)) (λ count. Starts (body Two number (piece 6 count (drop place s))) (drop place s))
unfolding four_bytes
numbered_found s place number None starts bad = inr (inr (subst IsBadLine (sym (drop-drop 4 place s)) bad))
numbered_found s place number (Some count) starts good =
    let six : place + 4 + 2 ≡ place + 6 = omega arith in
    let same : piece 2 count (drop (place + 4) s) ≡ piece 6 count (drop place s) =
    ap (take count) (drop-drop 2 (place + 4) s ∙ (ap (λ n. drop n s) six ∙ sym (drop-drop 6 place s))) in
    let line : List ℕ = piece 6 count (drop place s) in
    let content : List ℕ = two_bytes (length line) ++ line in
    let here : Starts content (drop (place + 4) s) = subst (λ (t : List ℕ). Starts (two_bytes (length t) ++ t) (drop (place + 4) s)) same good in
    let after : Starts content (drop 4 (drop place s)) = subst (λ t. Starts content t) (sym (drop-drop 4 place s)) here in
    subst (λ t. Starts t (drop place s)) (sym (append_assoc (four_bytes number) (two_bytes (length line)) line)) (follows (four_bytes number) content (drop place s) 4 refl starts after)

-- another number stands there
pub other_number : (rest : List ℕ) (a b : ℕ) → a ≢ b → Starts (four_bytes a) rest → Starts (four_bytes b) rest → ⊥
other_number rest a b apart one two = apart (four_same a b one.tail two.tail (sym one.is ∙ two.is)).0
