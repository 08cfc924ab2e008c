-- What opening finds in a file.
use Rattle.std.specs.Prelude.{◌≡◌, ◌≢◌, ◌⊎◌, ℕ, ◌+◌, ◌<◌, List, [], ◌∷◌, ◌++◌, length, drop, map, Option, Some}
use Rattle.serv_journal.specs.declared.format.Version.{Version}
use Rattle.serv_journal.specs.declared.format.Version.TheVariants.{One, Two}
use Rattle.serv_journal.specs.Bytes.{Starts}
use Rattle.serv_journal.specs.Format.{Form, IsForm, AreLines, base, body, header, two_bytes, four_bytes}
use Rattle.serv_journal.specs.States.{JournalState, StandsFor}

-- the lines of records with their places, and their places
abbrev pub lines_in : List (ℕ × List ℕ) → List (List ℕ)
lines_in frames = map (λ (frame : ℕ × List ℕ). frame.1) frames

abbrev pub places_in : List (ℕ × List ℕ) → List ℕ
places_in frames = map (λ (frame : ℕ × List ℕ). frame.0) frames

-- the lines with the places of their records' commit bytes, of which the first stands at this place
abbrev pub placed : Version → ℕ → ℕ → List (List ℕ) → List (ℕ × List ℕ)
placed version at number [] = []
placed version at number (line ∷ lines) =
    (at, line) ∷ placed version (at + 1 + length (body version number line)) (number + 1) lines

-- a commit byte of version 1 that ends its part: the header of version 2 comes after it
abbrev pub IsMark : ℕ → List ℕ → Type 0
IsMark commit rest = (commit ≢ 0) × Starts (header Two) rest

-- the file has these lines, then a commit byte that is not open and ends no part of version 1, then the rest
pub record IsRead (form : Form) (lines : List (List ℕ)) (commit : ℕ) (rest file : List ℕ) : Type 0 where
  pub is_form : IsForm form
  pub fit : AreLines lines
  pub closed : commit ≢ 1
  pub unmarked : form.version ≡ One → IsMark commit rest → ⊥
  pub is : file ≡ base form lines ++ commit ∷ rest

-- the bytes begin with a length that no line has: 0, above 512, or more than there is
pub record HasBadLength (bytes : List ℕ) : Type 0 where
  pub size : ℕ
  pub starts : Starts (two_bytes size) bytes
  pub bad : (size ≡ 0) ⊎ ((512 < size) ⊎ (length bytes < 2 + size))

abbrev pub IsBadLine : List ℕ → Type 0
IsBadLine bytes = (length bytes < 2) ⊎ HasBadLength bytes

-- the bytes after an open commit byte are no record with this number
abbrev pub IsBadRecord : Version → ℕ → List ℕ → Type 0
IsBadRecord One number bytes = (Starts (header Two) bytes → ⊥) × IsBadLine bytes
IsBadRecord Two number bytes = (length bytes < 6)
    ⊎ ((Starts (four_bytes number) bytes → ⊥) ⊎ IsBadLine (drop 4 bytes))

-- no commit byte, or an open one with no record after it
abbrev pub IsBadEnd : Version → ℕ → List ℕ → Type 0
IsBadEnd version number tail = (tail ≡ [])
    ⊎ ((bytes : List ℕ) × (tail ≡ 1 ∷ bytes) × IsBadRecord version number bytes)

-- the file is damaged at this place: whole records stand before it, and none from there on
pub record IsDamaged (place : ℕ) (file : List ℕ) : Type 0 where
  pub form : Form
  pub lines : List (List ℕ)
  pub is_form : IsForm form
  pub fit : AreLines lines
  pub at : place ≡ length (base form lines)
  pub tail : List ℕ
  pub is : file ≡ base form lines ++ tail
  pub bad : IsBadEnd form.version (length lines + 1) tail

-- the file begins with neither header
pub record IsNoJournal (file : List ℕ) : Type 0 where
  pub not_one : Starts (header One) file → ⊥
  pub not_two : Starts (header Two) file → ⊥

-- what opening gives of a file: the lines that it has, with their places, the journal that stands for
-- them, and what reads give afterwards: the same bytes, but for the commit byte after the last record,
-- which is 0
pub record IsOpened (told : Option (List ℕ)) (journal : JournalState) (frames : List (ℕ × List ℕ))
    (file : List ℕ) : Type 0 where
  pub form : Form
  pub commit : ℕ
  pub rest : List ℕ
  pub read : IsRead form (lines_in frames) commit rest file
  pub places : frames ≡ placed form.version (length form.front) 1 (lines_in frames)
  pub stands : StandsFor form (lines_in frames) journal
  pub closes : told ≡ Some (base form (lines_in frames) ++ 0 ∷ rest)
