-- Records read one after the other.
use Rattle.std.proofs.Common.{◌≡◌, ℕ, ◌+◌, ◌*◌, ◌≤◌, List, [], ◌∷◌, ◌++◌, length, take, drop, sym, ap, subst, ◌∙◌, arith, append_assoc, length-append, take-add}
use Rattle.std.proofs.lemmas.List.{map_push, length-map, length-drop}
use Rattle.serv_journal.specs.declared.format.Version.{Version}
use Rattle.serv_journal.specs.Bytes.{Starts}
use Rattle.serv_journal.specs.Format.{IsLine, AreLines, body, records, head_size}
use Rattle.serv_journal.specs.Reading.{lines_in, placed}
use Rattle.serv_journal.specs.Scans.{IsPlaced, IsScanned}
use Rattle.serv_journal.proofs.ByteLemmas.{starts_take, starts_fits}
use Rattle.serv_journal.proofs.FormatLemmas.{records_push, lines_push, length_of_body}

pub lines_in_push : (frames : List (ℕ × List ℕ)) (place : ℕ) (line : List ℕ) → lines_in (frames ++ (place, line) ∷ []) ≡ lines_in frames ++ line ∷ []
lines_in_push frames place line = map_push (λ (f : ℕ × List ℕ). f.1) frames (place, line)

pub length_lines_in : (frames : List (ℕ × List ℕ)) → length (lines_in frames) ≡ length frames
length_lines_in frames = length-map frames (λ (f : ℕ × List ℕ). f.1)

placed_push : (version : Version) (at number : ℕ) (lines : List (List ℕ)) (line : List ℕ)
    → placed version at number (lines ++ line ∷ []) ≡ placed version at number lines ++ (at + length (records version number lines), line) ∷ []
placed_push version at number [] line =
    let e : at ≡ at + length {A = ℕ} [] = omega arith in
    ap (λ (n : ℕ). (let f : ℕ × List ℕ = (n, line) in f) ∷ []) e
placed_push version at number (x ∷ xs) line =
    let next : ℕ = at + 1 + length (body version number x) in
    let e : next + length (records version (number + 1) xs) ≡ at + length (records version number (x ∷ xs)) =
    omega (arith, length-append (body version number x) (records version (number + 1) xs)) in
    ap (λ (t : List (ℕ × List ℕ)). (at, x) ∷ t) (placed_push version next (number + 1) xs line)
    ∙ ap (λ (n : ℕ). (at, x) ∷ (placed version next (number + 1) xs ++ (n, line) ∷ [])) e

pub placed_more : (version : Version) (at place next : ℕ) (frames : List (ℕ × List ℕ)) (line : List ℕ) → IsPlaced version at frames place → IsLine line
    → next ≡ place + 1 + head_size version + length line → IsPlaced version at (frames ++ (place, line) ∷ []) next
placed_more version at place next frames line so_far is_line next_is =
    let lines : List (List ℕ) = lines_in frames in
    let more = lines_in_push frames place line in
    record {
      fit = subst AreLines (sym more) (lines_push lines line so_far.fit is_line);
      places = ap (λ t. t ++ (place, line) ∷ []) so_far.places
          ∙ (ap (λ (n : ℕ). placed version at 1 lines ++ (n, line) ∷ []) so_far.end
          ∙ (sym (placed_push version at 1 lines line) ∙ ap (placed version at 1) (sym more)));
      end = omega (
        arith,
        next_is,
        so_far.end,
        ap (λ t. length (records version 1 t)) more,
        ap length (records_push version 1 lines line),
        length-append (records version 1 lines) (1 ∷ body version (1 + length lines) line),
        length_of_body version (1 + length lines) line,
      );
    }

pub scanned_push : (version : Version) (at place next number : ℕ) (frames : List (ℕ × List ℕ)) (line s : List ℕ) → IsScanned version at frames place s → number ≡ length frames + 1
    → Starts (1 ∷ body version number line) (drop place s) → next ≡ place + 1 + head_size version + length line → IsScanned version at (frames ++ (place, line) ∷ []) next s
scanned_push version at place next number frames line s so_far number_is starts next_is =
    let lines : List (List ℕ) = lines_in frames in
    let k : ℕ = 1 + length (body version number line) in
    let long : next ≡ place + k = omega (arith, length_of_body version number line) in
    let content : take k (drop place s) ≡ 1 ∷ body version number line = starts_take (1 ∷ body version number line) (drop place s) k (omega arith) starts in
    let same : number ≡ 1 + length lines = omega (arith, length_lines_in frames) in
    record {
      within = omega (arith, starts_fits (1 ∷ body version number line) (drop place s) starts, length-drop place s, so_far.within, long);
      is = ap (λ n. take n s) long ∙ (take-add place k s ∙ (ap (λ t. t ++ take k (drop place s)) so_far.is
          ∙ (ap (λ t. (take at s ++ records version 1 lines) ++ t) content ∙ (ap (λ n. (take at s ++ records version 1 lines) ++ 1 ∷ body version n line) same
          ∙ (append_assoc (take at s) (records version 1 lines) (1 ∷ body version (1 + length lines) line)
          ∙ ap (λ t. take at s ++ t) (sym (ap (records version 1) (lines_in_push frames place line) ∙ records_push version 1 lines line)))))));
    }

-- records have at least so many bytes
pub records_least : (version : Version) (number : ℕ) (lines : List (List ℕ)) → AreLines lines → (head_size version + 2) * length lines ≤ length (records version number lines)
records_least version number [] fit = omega arith
records_least version number (x ∷ xs) fit =
    let more = records_least version (number + 1) xs fit.1 in
    let body_is = length_of_body version number x in
    let spread : (head_size version + 2) * length (x ∷ xs) ≡ (head_size version + 2) * length xs + (head_size version + 2) = omega arith in
    omega (arith, more, body_is, spread, fit.0.some, length-append (body version number x) (records version (number + 1) xs))
