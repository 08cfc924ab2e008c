-- What an engine answers a command.
use Rattle.std.specs.Prelude.{◌≡◌, ℕ, ◌+◌, ◌<◌, ◌≤◌, Option, Some, length, ⊤}
use Rattle.svc_types.specs.declared.replies.Refusal.{Refusal}
use Rattle.svc_world.specs.World.{Accepted}
use Rattle.svc_world.specs.Judging.{Judgement, Refused, Fresh}
use Rattle.svc_core.specs.declared.fault.CoreFault.{CoreFault}
use Rattle.svc_core.specs.declared.fault.CoreFault.TheVariants as core
use Rattle.serv_disk.specs.Faults.{HasRisen}
use Rattle.serv_journal.specs.States.{JournalState}
use Rattle.serv_engine.specs.declared.fault.EngineFault.{EngineFault}
use Rattle.serv_engine.specs.declared.fault.EngineFault.TheVariants as fault
use Rattle.serv_engine.specs.Histories.{line_of_command}

-- the engine's fault for one of its core
abbrev pub fault_of_core : CoreFault → EngineFault
fault_of_core (core.Refused why) = fault.Refused why
fault_of_core core.OutOfMemory = fault.OutOfMemory

-- the journal's length after a command more: its commit byte, its number, its length and its line
abbrev pub length_with : JournalState → Accepted → ℕ
length_with j a = j.size + 7 + length (line_of_command a)

-- the journal would pass its limit, or it would not
abbrev pub IsFull : JournalState → Accepted → Type 0
IsFull j a = j.limit < length_with j a

abbrev pub HasRoom : JournalState → Accepted → Type 0
HasRoom j a = length_with j a ≤ j.limit

-- a fault of adding a command to the journal: the limit, the disk, whose count has risen, or want of memory
abbrev pub IsAppendFault : JournalState → Accepted → ℕ → ℕ → EngineFault → Type 0
IsAppendFault j a old new (fault.JournalFull bytes) = (bytes ≡ j.size) × IsFull j a
IsAppendFault j a old new fault.DiskFault = HasRoom j a × HasRisen old new
IsAppendFault j a old new fault.OutOfMemory = ⊤
IsAppendFault j a old new fault.NotJournal = ⊥
IsAppendFault j a old new (fault.Damaged place) = ⊥
IsAppendFault j a old new (fault.Refused why) = ⊥

-- a fault of a command, by what is said of it: the rule that refuses it; for a fresh one those of adding it
abbrev pub IsSubmitFault : Judgement → JournalState → Accepted → ℕ → ℕ → EngineFault → Type 0
IsSubmitFault said j a old new (fault.Refused why) = said ≡ Refused why
IsSubmitFault said j a old new (fault.JournalFull bytes) = (said ≡ Fresh) × (bytes ≡ j.size) × IsFull j a
IsSubmitFault said j a old new fault.DiskFault = (said ≡ Fresh) × HasRoom j a × HasRisen old new
IsSubmitFault said j a old new fault.OutOfMemory = said ≡ Fresh
IsSubmitFault said j a old new fault.NotJournal = ⊥
IsSubmitFault said j a old new (fault.Damaged place) = ⊥

-- a fault of a query: the rule that refuses it, or want of memory
abbrev pub IsAskFault : Option Refusal → EngineFault → Type 0
IsAskFault o (fault.Refused why) = o ≡ Some why
IsAskFault o fault.OutOfMemory = ⊤
IsAskFault o fault.NotJournal = ⊥
IsAskFault o (fault.Damaged place) = ⊥
IsAskFault o fault.DiskFault = ⊥
IsAskFault o (fault.JournalFull bytes) = ⊥
