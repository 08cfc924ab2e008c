-- What opening an engine finds in a file.
use Rattle.std.specs.Prelude.{◌≡◌, ◌≢◌, ◌⊎◌, ℕ, ◌+◌, ◌<◌, ◌≤◌, List, [], ◌∷◌, ◌++◌, length, slice_index, Option, Some, Result, MatchResult, ⊤}
use Rattle.svc_types.specs.Keys.{IsKey}
use Rattle.svc_types.specs.Requests.{IsCommand}
use Rattle.svc_world.specs.World.{Accepted}
use Rattle.svc_world.specs.Judging.{judged, Fresh, IsHistory}
use Rattle.svc_core.specs.Bound.{step_bound}
use Rattle.svc_core.specs.declared.fault.CoreFault.{CoreFault}
use Rattle.svc_core.specs.declared.fault.CoreFault.TheVariants as core
use Rattle.serv_disk.specs.Faults.{HasRisen}
use Rattle.serv_journal.specs.declared.format.Version.{Version}
use Rattle.serv_journal.specs.declared.format.Version.TheVariants.{One, Two}
use Rattle.serv_journal.specs.Format.{Form, base, records}
use Rattle.serv_journal.specs.Reading.{lines_in, places_in, IsRead, IsDamaged, IsNoJournal}
use Rattle.serv_journal.specs.States.{JournalState}
use Rattle.serv_journal.specs.declared.faults.JournalFault.{JournalFault}
use Rattle.serv_journal.specs.declared.faults.JournalFault.TheVariants as journal
use Rattle.serv_engine.specs.declared.fault.EngineFault.{EngineFault}
use Rattle.serv_engine.specs.declared.fault.EngineFault.TheVariants as fault
use Rattle.serv_engine.specs.Histories.{line_of_command, lines_of_history, lengths_of}

-- ---- lines that are no further command of a history

-- no command has this line
abbrev pub IsNoCommand : List ℕ → Type 0
IsNoCommand line = (a : Accepted) → IsKey a.key → IsCommand a.command → line ≡ line_of_command a → ⊥

-- it is the line of a command that is not fresh: its key is that of an earlier one, or a rule refuses it
pub record IsStale (h : List Accepted) (line : List ℕ) : Type 0 where
  pub command : Accepted
  pub key_formed : IsKey command.key
  pub formed : IsCommand command.command
  pub is : line ≡ line_of_command command
  pub stale : judged h command.key command.command ≢ Fresh

abbrev pub IsUnfit : List Accepted → List ℕ → Type 0
IsUnfit h line = IsNoCommand line ⊎ IsStale h line

-- it is the line of one command more
pub record IsNext (line : List ℕ) (old new : List Accepted) : Type 0 where
  pub command : Accepted
  pub is : line ≡ line_of_command command
  pub more : new ≡ old ++ command ∷ []

-- among records with their places: those before this place are the commands of a history, the one there is no
-- further command of it
pub record IsUnfitFrame (place : ℕ) (frames : List (ℕ × List ℕ)) : Type 0 where
  pub history : List Accepted
  pub line : List ℕ
  pub more : List (List ℕ)
  pub is_history : IsHistory history
  pub are : lines_in frames ≡ lines_of_history history ++ line ∷ more
  pub at : place ≡ slice_index (places_in frames) (length history)
  pub unfit : IsUnfit history line

-- the same of a file: at this place stands the commit byte of the first record that is no further command
pub record IsUnfitAt (place : ℕ) (file : List ℕ) : Type 0 where
  pub form : Form
  pub commit : ℕ
  pub rest : List ℕ
  pub history : List Accepted
  pub line : List ℕ
  pub more : List (List ℕ)
  pub is_history : IsHistory history
  pub read : IsRead form (lines_of_history history ++ line ∷ more) commit rest file
  pub at : place ≡ length (base form (lines_of_history history))
  pub unfit : IsUnfit history line

-- a file is damaged at a place as a journal, or as one of accepted commands
abbrev pub IsDamagedAt : ℕ → List ℕ → Type 0
IsDamagedAt place file = IsDamaged place file ⊎ IsUnfitAt place file

-- ---- a journal of version 1 is written anew in version 2

-- the length after it: the old part, the mark and the header, and the records
abbrev pub length_upgraded : ℕ → List (List ℕ) → ℕ
length_upgraded size lines = size + 9 + length (records Two 1 lines)

-- the length, in version 2 and without its lines, of a journal that is found in this form: of a file in version 1 the
-- old part stays before it, with its commit byte and a header
abbrev pub length_before : Version → Form → List (List ℕ) → ℕ
length_before One form lines = length (base form lines) + 10
length_before Two form lines = length form.front + 1

abbrev pub base_length : Form → List (List ℕ) → ℕ
base_length form lines = length_before form.version form lines

-- what is read of a file is a history in version 1 for which version 2 would pass the limit
pub record IsTooLong (limit size : ℕ) (file : List ℕ) : Type 0 where
  pub form : Form
  pub commit : ℕ
  pub rest : List ℕ
  pub history : List Accepted
  pub is_history : IsHistory history
  pub read : IsRead form (lines_of_history history) commit rest file
  pub old : form.version ≡ One
  pub size_is : size ≡ length (base form (lines_of_history history)) + 1
  pub past : limit < length_upgraded size (lines_of_history history)

-- what an engine finds: a history, in version 2 or with room for it; and the length of its journal then
pub record IsFound (limit size : ℕ) (h : List Accepted) (file : List ℕ) : Type 0 where
  pub form : Form
  pub commit : ℕ
  pub rest : List ℕ
  pub read : IsRead form (lines_of_history h) commit rest file
  pub room : form.version ≡ One
      → length_upgraded (length (base form (lines_of_history h)) + 1) (lines_of_history h) ≤ limit
  pub length_is : size ≡ base_length form (lines_of_history h) + lengths_of h

-- what reads give of a file that was opened: the same bytes, but for the closed commit byte, which is 0
pub record IsClosed (file : List ℕ) (told : Option (List ℕ)) : Type 0 where
  pub form : Form
  pub lines : List (List ℕ)
  pub commit : ℕ
  pub rest : List ℕ
  pub read : IsRead form lines commit rest file
  pub closes : told ≡ Some (base form lines ++ 0 ∷ rest)

-- ---- faults

-- the engine's fault for one of its journal
abbrev pub fault_of_journal : JournalFault → EngineFault
fault_of_journal journal.NotJournal = fault.NotJournal
fault_of_journal journal.AlreadyThere = fault.DiskFault
fault_of_journal (journal.Damaged place) = fault.Damaged place
fault_of_journal journal.DiskFault = fault.DiskFault
fault_of_journal (journal.Full bytes) = fault.JournalFull bytes
fault_of_journal journal.OutOfMemory = fault.OutOfMemory

-- a fault of the core over the command of a record at this place
abbrev pub fault_of_record : ℕ → CoreFault → EngineFault
fault_of_record place (core.Refused why) = fault.Damaged place
fault_of_record place core.OutOfMemory = fault.OutOfMemory

-- want of memory, or a fault of the disk, whose count has risen
abbrev pub IsPassing : ℕ → ℕ → EngineFault → Type 0
IsPassing old new f = (f ≡ fault.OutOfMemory) ⊎ ((f ≡ fault.DiskFault) × HasRisen old new)

-- no Ok, and no other fault than this one and passing ones
abbrev pub IsOnlyFault : {T : Type 0} → EngineFault → ℕ → ℕ → Result T EngineFault → Type 0
IsOnlyFault only old new result = MatchResult result (λ _. ⊥) (λ f. (f ≡ only) ⊎ IsPassing old new f)

-- a fault of reading the records of a journal
abbrev pub IsReplayFault : List (ℕ × List ℕ) → EngineFault → Type 0
IsReplayFault frames f = (f ≡ fault.OutOfMemory)
    ⊎ ((place : ℕ) × (f ≡ fault.Damaged place) × IsUnfitFrame place frames)

-- a fault of writing a journal of version 1 anew
abbrev pub IsUpgradeFault : JournalState → List (List ℕ) → ℕ → ℕ → EngineFault → Type 0
IsUpgradeFault j lines old new (fault.JournalFull bytes) =
    (j.version ≡ One) × (bytes ≡ j.size) × (j.limit < length_upgraded j.size lines)
IsUpgradeFault j lines old new fault.DiskFault = HasRisen old new
IsUpgradeFault j lines old new fault.OutOfMemory = ⊥
IsUpgradeFault j lines old new fault.NotJournal = ⊥
IsUpgradeFault j lines old new (fault.Damaged place) = ⊥
IsUpgradeFault j lines old new (fault.Refused why) = ⊥

-- lines are those of a history
pub record AreOfHistory (lines : List (List ℕ)) : Type 0 where
  pub history : List Accepted
  pub are : lines ≡ lines_of_history history
  pub is_history : IsHistory history

-- a fault of taking what a journal has found
abbrev pub IsTakingFault : JournalState → List (ℕ × List ℕ) → ℕ → ℕ → EngineFault → Type 0
IsTakingFault j frames old new (fault.JournalFull bytes) =
    (j.version ≡ One) × (bytes ≡ j.size) × (j.limit < length_upgraded j.size (lines_in frames))
    × AreOfHistory (lines_in frames)
IsTakingFault j frames old new fault.DiskFault = HasRisen old new
IsTakingFault j frames old new fault.OutOfMemory = ⊤
IsTakingFault j frames old new (fault.Damaged place) = IsUnfitFrame place frames
IsTakingFault j frames old new fault.NotJournal = ⊥
IsTakingFault j frames old new (fault.Refused why) = ⊥

-- a fault of opening, over a file that is told
abbrev pub IsOpenFault : ℕ → List ℕ → ℕ → ℕ → EngineFault → Type 0
IsOpenFault limit file old new fault.NotJournal = IsNoJournal file
IsOpenFault limit file old new (fault.Damaged place) = IsDamagedAt place file
IsOpenFault limit file old new (fault.JournalFull bytes) = IsTooLong limit bytes file
IsOpenFault limit file old new fault.DiskFault = HasRisen old new
IsOpenFault limit file old new fault.OutOfMemory = ⊤
IsOpenFault limit file old new (fault.Refused why) = ⊥

-- the fault has a cause, whether the disk tells what it holds or not
abbrev pub IsOpenCause : ℕ → ℕ → EngineFault → Type 0
IsOpenCause old new fault.NotJournal = ⊤
IsOpenCause old new (fault.Damaged place) = ⊤
IsOpenCause old new (fault.JournalFull bytes) = ⊤
IsOpenCause old new fault.DiskFault = HasRisen old new
IsOpenCause old new fault.OutOfMemory = ⊤
IsOpenCause old new (fault.Refused why) = ⊥

-- ---- steps

-- the bound on the steps of a history's commands, each after those before it
abbrev pub history_bound : List Accepted → List Accepted → ℕ
history_bound done [] = 0
history_bound done (a ∷ more) = step_bound done a.key a.command + history_bound (done ++ a ∷ []) more

-- the steps of a line after a history: none, or within the bound of the command that has this line
abbrev pub IsLineWithin : List Accepted → List ℕ → ℕ → ℕ → Type 0
IsLineWithin h line old new =
    (new ≤ old) ⊎ ((a : Accepted) × (line ≡ line_of_command a) × (new ≤ old + step_bound h a.key a.command))

-- the steps of lines up to one that is no further command: within the bounds of a history that they begin with,
-- and of the command that has the next line, where one has it
abbrev pub IsRestWithin : List Accepted → List (List ℕ) → ℕ → ℕ → Type 0
IsRestWithin h [] old new = new ≤ old
IsRestWithin h (line ∷ more) old new = IsLineWithin h line old new

pub record AreLinesWithin (lines : List (List ℕ)) (old new : ℕ) : Type 0 where
  pub history : List Accepted
  pub more : List (List ℕ)
  pub are : lines ≡ lines_of_history history ++ more
  pub rest : IsRestWithin history more (old + history_bound [] history) new

-- these are the lines of a file
pub record AreLinesOf (file : List ℕ) (lines : List (List ℕ)) : Type 0 where
  pub form : Form
  pub commit : ℕ
  pub rest : List ℕ
  pub read : IsRead form lines commit rest file

-- the same of lines that were found on a disk: where it tells a file, they are the file's
pub record IsFoundWithin (told : Option (List ℕ)) (old new : ℕ) : Type 0 where
  pub lines : List (List ℕ)
  pub within : AreLinesWithin lines old new
  pub of_file : (s : List ℕ) → told ≡ Some s → AreLinesOf s lines
