-- The part of a file that is in force.
use Rattle.std.specs.Prelude.{◌≡◌, ◌⊎◌, ℕ, List, Option, Some, length}
use Rattle.serv_journal.specs.declared.format.Version.{Version}
use Rattle.serv_journal.specs.declared.faults.JournalFault.{JournalFault}
use Rattle.serv_journal.specs.declared.faults.JournalFault.TheVariants.{NotJournal, Damaged}
use Rattle.serv_journal.specs.Format.{Form, IsForm, AreLines, base}
use Rattle.serv_journal.specs.Reading.{lines_in, placed, IsRead, IsDamaged, IsNoJournal}
use Rattle.serv_journal.specs.Outcomes.{IsPassing}

-- the file has these records in some form, and this commit byte after them at this place
pub record IsFound (version : Version) (frames : List (ℕ × List ℕ)) (place commit : ℕ)
    (file : List ℕ) : Type 0 where
  pub form : Form
  pub same : version ≡ form.version
  pub rest : List ℕ
  pub read : IsRead form (lines_in frames) commit rest file
  pub places : frames ≡ placed form.version (length form.front) 1 (lines_in frames)
  pub end : place ≡ length (base form (lines_in frames))

-- there is a form in which these records end at this place
pub record HasForm (version : Version) (frames : List (ℕ × List ℕ)) (place : ℕ) : Type 0 where
  pub form : Form
  pub same : version ≡ form.version
  pub is_form : IsForm form
  pub fit : AreLines (lines_in frames)
  pub end : place ≡ length (base form (lines_in frames))

-- a fault of opening, with what it says of the file that the disk tells
abbrev pub IsFindFault : Option (List ℕ) → ℕ → ℕ → JournalFault → Type 0
IsFindFault told old new fault =
    ((fault ≡ NotJournal) × ((s : List ℕ) → told ≡ Some s → IsNoJournal s))
    ⊎ (((place : ℕ) × (fault ≡ Damaged place) × ((s : List ℕ) → told ≡ Some s → IsDamaged place s))
    ⊎ IsPassing old new fault)
