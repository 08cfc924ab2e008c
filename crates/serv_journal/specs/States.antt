-- What a journal's value says of the file.
use Rattle.std.specs.Prelude.{◌≡◌, ℕ, ◌+◌, List, Option, Bool, length}
use Rattle.serv_journal.specs.declared.format.Version.{Version}
use Rattle.serv_journal.specs.Format.{Form, IsForm, AreLines, base}

-- the journal's length, the limit on it, how many records it has, their version, where the commit byte of the last one
-- stands while that record is begun, a line whose record stands behind the journal and is no part of it, and whether a
-- call of the disk has failed
pub record JournalState : Type 0 where
  pub size : ℕ
  pub limit : ℕ
  pub count : ℕ
  pub version : Version
  pub begun : Option ℕ
  pub laid : Option (List ℕ)
  pub spent : Bool

-- the journal has these lines in this form, and ends after the commit byte that comes after them
pub record StandsFor (form : Form) (lines : List (List ℕ)) (journal : JournalState) : Type 0 where
  pub is_form : IsForm form
  pub version : journal.version ≡ form.version
  pub count : journal.count ≡ length lines
  pub size : journal.size ≡ length (base form lines) + 1
  pub fit : AreLines lines
