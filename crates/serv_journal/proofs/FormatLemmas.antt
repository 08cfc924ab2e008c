-- The records of a journal, and one more.
use Rattle.std.proofs.Common.{◌≡◌, ◌≢◌, ◌⊎◌, ℕ, ◌+◌, List, [], ◌∷◌, ◌++◌, length, zero, suc, refl, sym, ap, subst, ◌∙◌, inl, inr, ⊎_elim, arith, append_assoc, length-append}
use Rattle.std.proofs.lemmas.List.{append-nil}
use Rattle.serv_journal.specs.declared.format.Version.{Version}
use Rattle.serv_journal.specs.declared.format.Version.TheVariants.{One, Two}
use Rattle.serv_journal.specs.Bytes.{Starts, Between}
use Rattle.serv_journal.specs.Format.{Form, IsLine, AreLines, body, records, base, two_bytes, four_bytes, head_size, version_number}
use Rattle.serv_journal.specs.States.{JournalState, StandsFor}
use Rattle.serv_journal.specs.Disks.{IsGoodIn}
use Rattle.serv_journal.proofs.ByteLemmas.{first_starts}

pub records_push : (version : Version) (number : ℕ) (lines : List (List ℕ)) (line : List ℕ)
    → records version number (lines ++ line ∷ []) ≡ records version number lines ++ 1 ∷ body version (number + length lines) line
records_push version number [] line =
    let e : number ≡ number + length {A = List ℕ} [] = omega arith in
    ap (λ t. 1 ∷ t) (append-nil (body version number line)) ∙ ap (λ k. 1 ∷ body version k line) e
records_push version number (x ∷ xs) line =
    let e : number + 1 + length xs ≡ number + length (x ∷ xs) = omega arith in
    ap (λ t. 1 ∷ (body version number x ++ t)) (records_push version (number + 1) xs line)
    ∙ (ap (λ t. 1 ∷ t) (sym (append_assoc (body version number x) (records version (number + 1) xs) (1 ∷ body version (number + 1 + length xs) line)))
    ∙ ap (λ k. 1 ∷ ((body version number x ++ records version (number + 1) xs) ++ 1 ∷ body version k line)) e)

pub base_push : (form : Form) (lines : List (List ℕ)) (line : List ℕ)
    → base form (lines ++ line ∷ []) ≡ base form lines ++ 1 ∷ body form.version (length lines + 1) line
unfolding base
base_push form lines line =
    let e : 1 + length lines ≡ length lines + 1 = omega arith in
    ap (λ t. form.front ++ t) (records_push form.version 1 lines line)
    ∙ (sym (append_assoc form.front (records form.version 1 lines) (1 ∷ body form.version (1 + length lines) line))
    ∙ ap (λ k. (form.front ++ records form.version 1 lines) ++ 1 ∷ body form.version k line) e)

pub whole_push : (form : Form) (lines : List (List ℕ)) (line : List ℕ)
    → base form lines ++ 1 ∷ (body form.version (length lines + 1) line ++ 0 ∷ []) ≡ base form (lines ++ line ∷ []) ++ 0 ∷ []
whole_push form lines line =
    sym (ap (λ t. t ++ 0 ∷ []) (base_push form lines line) ∙ append_assoc (base form lines) (1 ∷ body form.version (length lines + 1) line) (0 ∷ []))

pub lines_push : (lines : List (List ℕ)) (line : List ℕ) → AreLines lines → IsLine line → AreLines (lines ++ line ∷ [])
lines_push [] line fit is_line = (is_line, tt)
lines_push (x ∷ xs) line fit is_line = (fit.0, lines_push xs line fit.1 is_line)

-- a closed commit byte and anything
pub closed_starts : (front rest file : List ℕ) → Starts (front ++ 0 ∷ rest) file → Starts (front ++ 0 ∷ []) file
closed_starts front rest file starts = first_starts (front ++ 0 ∷ []) rest file (subst (λ x. Starts x file) (sym (append_assoc front (0 ∷ []) rest)) starts)

byte_cases : (n : ℕ) → (n ≡ 0) ⊎ ((n ≡ 1) ⊎ ((n ≢ 0) × (n ≢ 1)))
byte_cases zero = inl refl
byte_cases (suc zero) = inr (inl refl)
byte_cases (suc (suc n)) = inr (inr ((λ e. omega (arith, e)), (λ e. omega (arith, e))))

-- a record of one line more, after any commit byte
pub between_good : (form : Form) (lines : List (List ℕ)) (line file : List ℕ) → Between (base form lines) (body form.version (length lines + 1) line ++ 0 ∷ []) file → IsGoodIn form lines line file
between_good form lines line file between =
    let more : List ℕ = body form.version (length lines + 1) line ++ 0 ∷ [] in
    ⊎_elim
    (λ zero_is. inl (closed_starts (base form lines) more file (subst (λ b. Starts (base form lines ++ b ∷ more) file) zero_is between.starts)))
    (λ other. ⊎_elim
    (λ one_is. inr (inr (subst (λ x. Starts x file) (whole_push form lines line) (subst (λ b. Starts (base form lines ++ b ∷ more) file) one_is between.starts))))
    (λ neither. inr (inl (record { commit = between.byte; not_closed = neither.0; not_open = neither.1; starts = between.starts })))
    other)
    (byte_cases between.byte)

pub length_of_body : (version : Version) (number : ℕ) (line : List ℕ) → length (body version number line) ≡ head_size version + length line
unfolding two_bytes four_bytes
length_of_body One number line = omega arith
length_of_body Two number line = omega arith

-- the journal with one line more
pub stands_push : (form : Form) (lines : List (List ℕ)) (line : List ℕ) (old new : JournalState) → IsLine line → StandsFor form lines old → form.version ≡ Two
    → new.version ≡ old.version → new.count ≡ old.count + 1 → new.size ≡ old.size + (7 + length line) → StandsFor form (lines ++ line ∷ []) new
stands_push form lines line old new is_line stands two version count size = record {
  is_form = stands.is_form;
  version = version ∙ stands.version;
  count = omega (arith, count, stands.count, length-append lines (line ∷ []));
  size = omega (
    arith,
    size,
    stands.size,
    ap length (base_push form lines line),
    length-append (base form lines) (1 ∷ body form.version (length lines + 1) line),
    length_of_body form.version (length lines + 1) line,
    ap head_size two,
  );
  fit = lines_push lines line stands.fit is_line;
}

pub number_two : (version : Version) → version_number version ≡ 2 → version ≡ Two
number_two One is = absurd (omega (arith, is))
number_two Two is = refl

pub number_one : (version : Version) → version_number version ≢ 2 → version ≡ One
number_one One other = refl
number_one Two other = absurd (other refl)
