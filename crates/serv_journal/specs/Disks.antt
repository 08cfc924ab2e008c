-- Which contents of a disk keep which lines.
use Rattle.std.specs.Prelude.{◌≡◌, ◌≢◌, ◌⊎◌, ℕ, ◌+◌, ◌≤◌, List, [], ◌∷◌, ◌++◌, length, Option, None, Some, ⊤}
use Rattle.serv_disk.specs.Disks.{Each}
use Rattle.serv_journal.specs.Bytes.{Starts}
use Rattle.serv_journal.specs.Format.{Form, IsForm, IsLine, base, body}
use Rattle.serv_journal.specs.States.{JournalState, StandsFor}

-- the lines, a closed commit byte, and any tail
abbrev pub IsWholeIn : Form → List (List ℕ) → List ℕ → Type 0
IsWholeIn form lines file = Starts (base form lines ++ 0 ∷ []) file

-- the lines, any other commit byte that is not open, one record more, a closed commit byte, and any tail
pub record IsTornIn (form : Form) (lines : List (List ℕ)) (line file : List ℕ) : Type 0 where
  pub commit : ℕ
  pub not_closed : commit ≢ 0
  pub not_open : commit ≢ 1
  pub starts : Starts (base form lines ++ commit ∷ (body form.version (length lines + 1) line ++ 0 ∷ [])) file

-- the lines, whole; or torn with one line more; or whole with it
abbrev pub IsGoodIn : Form → List (List ℕ) → List ℕ → List ℕ → Type 0
IsGoodIn form lines line file =
    IsWholeIn form lines file ⊎ (IsTornIn form lines line file ⊎ IsWholeIn form (lines ++ line ∷ []) file)

-- the same in some form
pub record IsWhole (lines : List (List ℕ)) (file : List ℕ) : Type 0 where
  pub form : Form
  pub is_form : IsForm form
  pub whole : IsWholeIn form lines file

pub record IsGood (lines : List (List ℕ)) (line file : List ℕ) : Type 0 where
  pub form : Form
  pub is_form : IsForm form
  pub good : IsGoodIn form lines line file

-- the lines, a closed commit byte, and behind it one record more with a closed commit byte: it is no part of the
-- journal yet
abbrev pub IsBegunIn : Form → List (List ℕ) → List ℕ → List ℕ → Type 0
IsBegunIn form lines line file =
    Starts (base form lines ++ 0 ∷ (body form.version (length lines + 1) line ++ 0 ∷ [])) file

-- by the line that is begun, if one is: where its commit byte stands
abbrev pub gate_of : Form → List (List ℕ) → List (List ℕ) → Option ℕ
gate_of form lines [] = None
gate_of form lines (line ∷ more) = Some (length (base form lines))

-- what a content has between two calls
abbrev pub IsAtRest : Form → List (List ℕ) → List (List ℕ) → List ℕ → Type 0
IsAtRest form lines [] file = IsWholeIn form lines file
IsAtRest form lines (line ∷ more) file = IsBegunIn form lines line file

-- what it has at any moment until the begun line is committed
abbrev pub IsAround : Form → List (List ℕ) → List (List ℕ) → List ℕ → Type 0
IsAround form lines [] file = IsWholeIn form lines file
IsAround form lines (line ∷ more) file = IsGoodIn form lines line file

-- a line whose record stands behind these lines in each image, if there is one
abbrev pub HasLaid : Form → (List ℕ → Type 0) → List (List ℕ) → Option (List ℕ) → Type 0
HasLaid form images lines None = ⊤
HasLaid form images lines (Some line) = IsLine line × Each images (IsBegunIn form lines line)

-- each image of the disk has these lines, and the journal these and the begun one
pub record IsKept (form : Form) (images : List ℕ → Type 0) (journal : JournalState)
    (lines begun : List (List ℕ)) : Type 0 where
  pub stands : StandsFor form (lines ++ begun) journal
  pub at_most_one : length begun ≤ 1
  pub gate : journal.begun ≡ gate_of form lines begun
  pub each : Each images (IsAtRest form lines begun)
  pub laid : HasLaid form images (lines ++ begun) journal.laid

-- the journal has these lines in some form, and so has each image of the disk; none is begun
pub record IsDurableFor (images : List ℕ
    → Type 0) (journal : JournalState) (lines : List (List ℕ)) : Type 0 where
  pub form : Form
  pub kept : IsKept form images journal lines []
