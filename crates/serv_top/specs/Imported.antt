-- What a run that imports a file has taken, accepted and written.
use Rattle.std.specs.Prelude.{◌≡◌, ℕ, ◌<◌, ◌⊎◌, List, [], ◌∷◌, length, map, Option}
use Rattle.std.specs.Io.KnownBytes.{IsAtEnd}
use Rattle.svc_types.specs.Keys.{IsKey}
use Rattle.svc_types.specs.Requests.{IsCommand}
use Rattle.svc_types.specs.declared.requests.Request.TheVariants as request
use Rattle.svc_world.specs.World.{Accepted}
use Rattle.serv_import.specs.declared.row.RowRequest.{RowRequest}
use Rattle.serv_import.specs.declared.row.RowRequest.TheVariants as row
use Rattle.serv_import.specs.Batches.{HasHeader, IsBatch}
use Rattle.serv_texts.specs.declared.status.Status.{Status}
use Rattle.serv_texts.specs.declared.status.Status.TheVariants.{Done, WriteFault, DiskFault, OutOfMemory}
use Rattle.serv_machine.specs.OnDisk.{IsAcknowledged}
use Rattle.serv_machine.specs.History.{Stand, Stays}
use Rattle.serv_machine.specs.Sayings.{Saying, AreFirst, telling}
use Rattle.serv_machine.specs.Answering.{Answers, IsStopped, AreReplies}
use Rattle.serv_machine.specs.declared.faults.Stop.TheVariants as stop
use Rattle.serv_rows.specs.Texts.{text_of_bad_row}
use Rattle.serv_top.specs.Lines.{in_words}
use Rattle.serv_texts.specs.Input.{Exchanges, IsUnread, input_limit}
use Rattle.serv_top.specs.Journal.{IsRunOver}
use Rattle.serv_disk.specs.Stamps.{Stamp}
use Rattle.serv_disk.specs.Disks.{View}

-- ---- what a file says

-- what a row says
abbrev pub said_of : RowRequest → Saying
said_of (row.Row key c) = in_words (request.Do key c)
said_of (row.Bad number column) = telling (text_of_bad_row number column)

-- what a file says, row by row; without the header its first row is bad, and no other row is looked at
pub data FileSays (bytes : List ℕ) : List Saying → Type 0 where
  rows : (answers : List RowRequest) → IsBatch bytes answers → FileSays bytes (map said_of answers)
  headless : (HasHeader bytes → ⊥) → FileSays bytes (telling (text_of_bad_row 1 1) ∷ [])

-- a row asks a command under a key
abbrev pub IsRow : RowRequest → Type 0
IsRow (row.Row key c) = IsKey key × IsCommand c
IsRow (row.Bad number column) = Unit {0}

abbrev pub AreRows : List RowRequest → Type 0
AreRows [] = Unit {0}
AreRows (r ∷ more) = IsRow r × AreRows more

-- ---- all rows

-- what is accepted and written by the status. Other statuses do not come where rows are answered
abbrev pub IsRowsOutput : Status → List Saying → Stand → Stand → List Accepted → List ℕ → Type 0
IsRowsOutput Done saids s s' pending written = (pending ≡ []) × Answers (λ said. said ≡ saids) s s' written
IsRowsOutput WriteFault saids s s' pending written = IsStopped stop.WriteFault (AreFirst (λ said. said ≡ saids)) 0 s s' pending written
IsRowsOutput DiskFault saids s s' pending written = IsStopped stop.DiskFault (AreFirst (λ said. said ≡ saids)) 0 s s' pending written
IsRowsOutput OutOfMemory saids s s' pending written = IsStopped stop.OutOfMemory (AreFirst (λ said. said ≡ saids)) 0 s s' pending written
IsRowsOutput other saids s s' pending written = ⊥

-- ---- the file

-- the rows of a file are answered
pub record IsFileOutput (status : Status) (bytes : List ℕ) (s s' : Stand) (pending : List Accepted) (written : List ℕ) : Type 0 where
  pub saids : List Saying
  pub file : FileSays bytes saids
  pub rows : IsRowsOutput status saids s s' pending written

-- the whole source is read first: then its rows are answered, or no row is acted on
abbrev pub Imports : Status → Stand → Stand → List Accepted → Option (List ℕ) → Option (List ℕ) → Option (List ℕ) → Option (List ℕ) → Type 0
Imports status s s' pending left left' held held' =
    Exchanges (λ taken written. (IsUnread status taken × (pending ≡ []) × (written ≡ []) × Stays s s')
    ⊎ (IsAtEnd left' × (length taken < input_limit) × IsFileOutput status taken s s' pending written)) left left' held held'

-- a journal was opened, and then a file was imported over it; from the moment of each write on, and at exit, each image has
-- every command that is answered by what was written by then
abbrev pub IsImported : {D : Type 0} → (D → View) → D → D → Status → ℕ → ℕ
    → Option (List ℕ) → Option (List ℕ) → Option (List ℕ) → Option (List ℕ) → Option (List Stamp) → Option (List Stamp) → Type 0
IsImported view old new status steps steps' left left' held held' log log' =
    IsRunOver (λ s s' pending. Imports status s s' pending left left' held held'
    × IsAcknowledged (λ taken. AreReplies (FileSays taken) s.history) (view new) s'.history left left' held log log') view old new steps steps'
