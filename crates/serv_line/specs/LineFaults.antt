-- Where a line that is no request goes wrong: at the first word that does not fit.
use Rattle.std.specs.Prelude.{◌≡◌, ℕ, zero, suc, ◌-◌, ◌<◌, ◌≤◌, ◌⊎◌, List, [], ◌∷◌, Option, Some, None, length, drop, slice_get, codes, IsTrue}
use Rattle.svc_types.specs.Keys.{IsKey}
use Rattle.svc_forms.specs.declared.field.Field.{Field}
use Rattle.svc_forms.specs.declared.form.Form.{Form}
use Rattle.svc_forms.specs.declared.form.Question.{Question}
use Rattle.svc_forms.specs.Fields.{kind_of_field, is_optional}
use Rattle.svc_forms.specs.Values.{Spells}
use Rattle.svc_forms.specs.Forms.{word_of, fields_of, word_of_question, fields_of_question}
use Rattle.serv_line.specs.Lines.{joined, words_of}

-- a line has at most so many bytes
abbrev pub longest_line : ℕ
longest_line = 512

-- a line begins with `?` or with the key of a command
abbrev pub IsOpening : List ℕ → Type 0
IsOpening first = (first ≡ codes "?") ⊎ IsKey first

-- the first two words of a line name a form with these fields
pub data Names (first name : List ℕ) : List Field → Type 0 where
  command : (f : Form) → IsKey first → name ≡ word_of f → Names first name (fields_of f)
  query : (q : Question) → first ≡ codes "?" → name ≡ word_of_question q → Names first name (fields_of_question q)

-- a word fits the field in its place where it spells a value of it; only a field that may be left out may have none
abbrev pub FitsWord : Option Field → Option (List ℕ) → Type 0
FitsWord None None = Unit {0}
FitsWord None (Some word) = ⊥
FitsWord (Some f) None = IsTrue (is_optional f)
FitsWord (Some f) (Some word) = Spells (kind_of_field f) word

-- the form that is named has a field in that place which the word fits
pub record FitsForm (first name : List ℕ) (i : ℕ) (word : Option (List ℕ)) : Type 0 where
  pub fields : List Field
  pub named : Names first name fields
  pub fits : FitsWord (slice_get fields i) word

-- the words name a form
pub record NamesForm (first name : List ℕ) : Type 0 where
  pub fields : List Field
  pub named : Names first name fields

-- the word in a place fits, by the words before it: the opening, the form's word, then the fields
abbrev pub Fits : List (List ℕ) → ℕ → Type 0
Fits [] i = ⊥
Fits (first ∷ words) zero = IsOpening first
Fits (first ∷ []) (suc i) = ⊥
Fits (first ∷ name ∷ words) (suc zero) = NamesForm first name
Fits (first ∷ name ∷ words) (suc (suc i)) = FitsForm first name i (slice_get words i)

-- the first place where something does not fit
pub record IsFirstMisfit (fits : ℕ → Type 0) (i : ℕ) : Type 0 where
  pub before : (k : ℕ) → k < i → fits k
  pub here : fits i → ⊥

-- where the word in a place begins: what stands from it on ends the line; the line's length where it has no such word
abbrev pub place_of : List ℕ → ℕ → ℕ
place_of line i = length line - length (joined (drop i (words_of line)))

-- the place of the fault of a line that is no request
pub data IsFault (line : List ℕ) : ℕ → Type 0 where
  too_long : longest_line < length line → IsFault line longest_line
  misfit : (i : ℕ) → length line ≤ longest_line → IsFirstMisfit (Fits (words_of line)) i → IsFault line (place_of line i)

-- the first of some words that does not fit, told by how many bytes stand from it on
pub record IsLeftAt (fits : ℕ → Type 0) (words : List (List ℕ)) (left : ℕ) : Type 0 where
  pub place : ℕ
  pub first : IsFirstMisfit fits place
  pub bytes : left ≡ length (joined (drop place words))
