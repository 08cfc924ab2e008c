-- Where a line goes wrong: at its opening, at its form's word, or in the fields of its form.
use Rattle.std.proofs.Common.{◌≡◌, ◌≢◌, ℕ, zero, suc, ◌-◌, ◌<◌, ◌≤◌, inl, inr, List, [], ◌∷◌, length, drop, Option, true, false, refl, sym, ap, subst, ◌∙◌, arith, length-append}
use Rattle.std.specs.Prelude.{slice_get, codes}
use Rattle.std.proofs.lemmas.Bool.{cases_lt}
use Rattle.std.specs.Borrow.{Bor}
use Rattle.svc_types.specs.Keys.{IsKey}
use Rattle.svc_forms.specs.declared.field.Field.{Field}
use Rattle.svc_forms.specs.declared.form.Form.{Form}
use Rattle.svc_forms.specs.declared.form.Question.{Question}
use Rattle.svc_forms.specs.Forms.{word_of, fields_of, word_of_question, fields_of_question}
use Rattle.svc_forms.proofs.RequestLemmas.{same_form, same_question}
use Rattle.serv_line.specs.Lines.{joined, words_of, words_left}
use Rattle.serv_line.specs.LineFaults.{IsOpening, Names, command, query, FitsWord, NamesForm, Fits, IsFirstMisfit, IsLeftAt, IsFault, too_long, misfit, place_of}
use Rattle.serv_line.proofs.WordLemmas.{split_joined}

-- `?` is no key
pub no_key : IsKey (codes "?") → ⊥
no_key k = let each : false ≡ true = k.each in cc

pub not_key : (first : List ℕ) → first ≡ codes "?" → IsKey first → ⊥
not_key first e k = no_key (subst IsKey e k)

-- ---- the first two words name one form at most

pub command_named : (first : List ℕ) (f : Form) (fields : List Field) → IsKey first → Names first (word_of f) fields → fields ≡ fields_of f
command_named first f fields k (command g k' e) = ap fields_of (sym (same_form f g e))
command_named first f fields k (query q e' e) = absurd (not_key first e' k)

pub query_named : (first : List ℕ) (q : Question) (fields : List Field) → first ≡ codes "?" → Names first (word_of_question q) fields → fields ≡ fields_of_question q
query_named first q fields e (command g k e') = absurd (not_key first e k)
query_named first q fields e (query p e'' e') = ap fields_of_question (sym (same_question q p e'))

-- ---- the first misfit

pub opening_misfit : (first : List ℕ) (words : List (List ℕ)) (left : ℕ) → (IsOpening first → ⊥) → left ≡ length (joined (first ∷ words)) → IsLeftAt (Fits (first ∷ words)) (first ∷ words) left
opening_misfit first words left not e =
    record { place = 0; first = record { before = λ k h. absurd (omega arith); here = not }; bytes = e }

pub name_misfit : (first name : List ℕ) (words : List (List ℕ)) (left : ℕ) → IsOpening first → (NamesForm first name → ⊥) → left ≡ length (joined (name ∷ words))
    → IsLeftAt (Fits (first ∷ name ∷ words)) (first ∷ name ∷ words) left
name_misfit first name words left opening not e =
    record { place = 1; first = record { before = before; here = not }; bytes = e } where
      before : (k : ℕ) → k < 1 → Fits (first ∷ name ∷ words) k
      before zero h = opening
      before (suc k) h = absurd (omega arith)

pub fields_misfit : (first name : List ℕ) (fields : List Field) (words : List (List ℕ)) (left : ℕ) → IsOpening first → Names first name fields
    → ((g : List Field) → Names first name g → g ≡ fields) → IsLeftAt (λ k. FitsWord (slice_get fields k) (slice_get words k)) words left
    → IsLeftAt (Fits (first ∷ name ∷ words)) (first ∷ name ∷ words) left
fields_misfit first name fields words left opening named one l =
    record {
      place = suc (suc l.place);
      first = record {
        before = before;
        here = λ h. l.first.here (subst (λ (g : List Field). FitsWord (slice_get g l.place) (slice_get words l.place)) (one h.fields h.named) h.fits);
      };
      bytes = l.bytes;
    } where
      before : (k : ℕ) → k < suc (suc l.place) → Fits (first ∷ name ∷ words) k
      before zero h = opening
      before (suc zero) h = record { fields = fields; named = named }
      before (suc (suc k)) h = record { fields = fields; named = named; fits = l.first.before k (omega arith) }

-- ---- commands

pub command_name_misfit : (key : List ℕ) (text : Bor (List ℕ)) (name : List ℕ) (rest : Option (Bor (List ℕ))) → IsKey key → words_of text.now ≡ name ∷ words_left rest
    → ((f : Form) → name ≢ word_of f) → IsLeftAt (Fits (key ∷ words_of text.now)) (key ∷ words_of text.now) (length text.now)
command_name_misfit key text name rest k split none =
    let P : List (List ℕ) → Type 0 = λ ws. IsLeftAt (Fits (key ∷ ws)) (key ∷ ws) (length text.now) in
    subst P (sym split) (name_misfit key name (words_left rest) (length text.now) (inr k) unnamed (ap length (sym (split_joined text.now) ∙ ap joined split))) where
      unnamed : NamesForm key name → ⊥
      unnamed h = no_form h.fields h.named where
        no_form : (g : List Field) → Names key name g → ⊥
        no_form g (command f k' e) = none f e
        no_form g (query q e' e) = not_key key e' k

pub command_fields_misfit : (key : List ℕ) (words : List (List ℕ)) (name : List ℕ) (rest : Option (Bor (List ℕ))) (f : Form) (left : ℕ) → IsKey key
    → words ≡ name ∷ words_left rest → name ≡ word_of f
    → IsLeftAt (λ k. FitsWord (slice_get (fields_of f) k) (slice_get (words_left rest) k)) (words_left rest) left
    → IsLeftAt (Fits (key ∷ words)) (key ∷ words) left
command_fields_misfit key words name rest f left k split e l =
    let P : List (List ℕ) → Type 0 = λ ws. IsLeftAt (Fits (key ∷ ws)) (key ∷ ws) left in
    let are : word_of f ∷ words_left rest ≡ words = ap (λ (n : List ℕ). n ∷ words_left rest) (sym e) ∙ sym split in
    subst P are (fields_misfit key (word_of f) (fields_of f) (words_left rest) left (inr k) (command f k refl) (λ g n. command_named key f g k n) l)

-- ---- queries

pub query_name_misfit : (text : Bor (List ℕ)) (name : List ℕ) (rest : Option (Bor (List ℕ))) → words_of text.now ≡ name ∷ words_left rest
    → ((q : Question) → name ≢ word_of_question q) → IsLeftAt (Fits (codes "?" ∷ words_of text.now)) (codes "?" ∷ words_of text.now) (length text.now)
query_name_misfit text name rest split none =
    let P : List (List ℕ) → Type 0 = λ ws. IsLeftAt (Fits (codes "?" ∷ ws)) (codes "?" ∷ ws) (length text.now) in
    subst P (sym split) (name_misfit (codes "?") name (words_left rest) (length text.now) (inl refl) unnamed (ap length (sym (split_joined text.now) ∙ ap joined split))) where
      unnamed : NamesForm (codes "?") name → ⊥
      unnamed h = no_form h.fields h.named where
        no_form : (g : List Field) → Names (codes "?") name g → ⊥
        no_form g (command f k e) = no_key k
        no_form g (query q e' e) = none q e

pub query_fields_misfit : (words : List (List ℕ)) (name : List ℕ) (rest : Option (Bor (List ℕ))) (q : Question) (left : ℕ)
    → words ≡ name ∷ words_left rest → name ≡ word_of_question q
    → IsLeftAt (λ k. FitsWord (slice_get (fields_of_question q) k) (slice_get (words_left rest) k)) (words_left rest) left
    → IsLeftAt (Fits (codes "?" ∷ words)) (codes "?" ∷ words) left
query_fields_misfit words name rest q left split e l =
    let P : List (List ℕ) → Type 0 = λ ws. IsLeftAt (Fits (codes "?" ∷ ws)) (codes "?" ∷ ws) left in
    let are : word_of_question q ∷ words_left rest ≡ words = ap (λ (n : List ℕ). n ∷ words_left rest) (sym e) ∙ sym split in
    subst P are (fields_misfit (codes "?") (word_of_question q) (fields_of_question q) (words_left rest) left (inl refl) (query q refl refl)
    (λ g n. query_named (codes "?") q g refl n) l)

-- ---- the line

pub line_misfit : (line : List ℕ) (left place : ℕ) → length line ≤ 512 → IsLeftAt (Fits (words_of line)) (words_of line) left → place ≡ length line - left → IsFault line place
line_misfit line left place short l e =
    let at : place_of line l.place ≡ place = ap (λ (n : ℕ). length line - n) (sym l.bytes) ∙ sym e in
    subst (IsFault line) at (misfit l.place short l.first)

-- no more stands from a word on than the line has
ends_short : (i : ℕ) (words : List (List ℕ)) → length (joined (drop i words)) ≤ length (joined words)
ends_short zero words = omega arith
ends_short (suc i) [] = omega arith
ends_short (suc i) (w ∷ words) = let rest = ends_short i words in let more = tail_short w words in omega arith where
  tail_short : (w : List ℕ) (words : List (List ℕ)) → length (joined words) ≤ length (joined (w ∷ words))
  tail_short w [] = omega arith
  tail_short w (x ∷ xs) = omega (arith, length-append w (32 ∷ joined (x ∷ xs)))

pub left_short : (line : List ℕ) (left : ℕ) → IsLeftAt (Fits (words_of line)) (words_of line) left → left ≤ length line
left_short line left l =
    let whole : length (joined (words_of line)) ≡ length line = ap length (split_joined line) in
    let part = ends_short l.place (words_of line) in
    let bytes = l.bytes in
    omega arith

-- ---- a line has one fault at most

one_misfit : (fits : ℕ → Type 0) (i j : ℕ) → IsFirstMisfit fits i → IsFirstMisfit fits j → i ≡ j
one_misfit fits i j p q =
    elim (cases_lt i j) [
      | inl below ↦ absurd (p.here (q.before i below))
      | inr le ↦ elim (cases_lt j i) [ inl above ↦ absurd (q.here (p.before j above)) | inr ge ↦ omega arith ]
    ]

pub one_fault : (line : List ℕ) (p q : ℕ) → IsFault line p → IsFault line q → p ≡ q
one_fault line p q (too_long h) (too_long k) = refl
one_fault line p q (too_long h) (misfit j short g) = absurd (omega arith)
one_fault line p q (misfit i short f) (too_long h) = absurd (omega arith)
one_fault line p q (misfit i short f) (misfit j short' g) = ap (place_of line) (one_misfit (Fits (words_of line)) i j f g)
