-- What a machine holds, and what it decides about a command.
use Rattle.std.specs.Prelude.{ℕ, ◌+◌, List, [], ◌∷◌, ◌++◌, nat_lt, if◌then◌else◌, ◌≡◌, ◌⊎◌, ◌≤◌, ◌-◌}
use Rattle.svc_types.specs.declared.requests.Command.{Command}
use Rattle.svc_types.specs.declared.replies.Reply.{Reply}
use Rattle.svc_types.specs.declared.replies.Refusal.{Refusal}
use Rattle.svc_world.specs.World.{Accepted, accepted}
use Rattle.svc_world.specs.Judging as judging
use Rattle.svc_world.specs.Judging.{Judgement, judged}
use Rattle.serv_engine.specs.Histories.{record_length, lengths_of}
use Rattle.serv_engine.specs.Engines.{EngineState, kept_of}
use Rattle.serv_engine.specs.declared.fault.EngineFault.{EngineFault}
use Rattle.serv_engine.specs.declared.fault.EngineFault.TheVariants as engine
use Rattle.serv_machine.specs.declared.faults.ActFault.{ActFault}
use Rattle.serv_machine.specs.declared.faults.ActFault.TheVariants as fault

-- where accepted commands are kept: in memory; or in a journal, with its length without a command, and the limit on
-- its length
pub data Store : Type 0 where
  Memory : Store
  Journal : ℕ → ℕ → Store

-- the commands that were accepted, with their keys, in their order, and where they are kept
pub record History : Type 0 where
  pub commands : List Accepted
  pub store : Store

-- none yet, in memory
abbrev pub nothing : History
nothing = record { commands = []; store = Memory }

abbrev pub in_store : Store → List Accepted → History
in_store store h = record { commands = h; store = store }

abbrev pub in_journal : ℕ → ℕ → List Accepted → History
in_journal base limit h = in_store (Journal base limit) h

-- some commands more, and one more
abbrev pub with_commands : History → List Accepted → History
with_commands h more = in_store h.store (h.commands ++ more)

abbrev pub with_command : History → Accepted → History
with_command h a = with_commands h (a ∷ [])

-- what is decided about a command: the reply that its key has, a refusal, that the journal, of this length, has no room
-- for it, or that it is accepted
pub data Decision : Type 0 where
  Kept : Reply → Decision
  Refused : Refusal → Decision
  Full : ℕ → Decision
  Fresh : Decision

-- whether there is room for a fresh command
abbrev pub by_room : Store → List Accepted → Accepted → Decision
by_room Memory h a = Fresh
by_room (Journal base limit) h a =
    if nat_lt limit (base + lengths_of h + record_length a) then Full (base + lengths_of h) else Fresh

abbrev pub by_judgement : Store → List Accepted → Accepted → Judgement → Decision
by_judgement store h a (judging.Kept reply) = Kept reply
by_judgement store h a (judging.Refused why) = Refused why
by_judgement store h a judging.Fresh = by_room store h a

-- the journal's limit stands after all rules
unfoldable pub decided : History → List ℕ → Command → Decision
decided h key c = by_judgement h.store h.commands (accepted key c) (judged h.commands key c)

-- a fresh command is accepted, and nothing else is
abbrev pub after_decision : History → Accepted → Decision → History
after_decision h a Fresh = with_command h a
after_decision h a other = h

-- ---- What a machine keeps of the commands that it holds.

-- the disk has all that is held after a request; or all that was held before it, and the command that it brings, which is fresh, is
-- begun
abbrev pub IsKeptBut : Type 0 → History → History → History → Type 0
IsKeptBut fresh held held' kept' = (kept' ≡ held') ⊎ (fresh × (kept' ≡ held))

-- what is kept where want of memory stopped a request: all that was held before it, or all that is held after it
abbrev pub IsNear : History → History → History → Type 0
IsNear held after kept' = (kept' ≡ held) ⊎ (kept' ≡ after)

-- ---- Where the books stand.

-- what is accepted, and how many steps were taken
pub record Stand : Type 0 where
  pub history : History
  pub steps : ℕ

abbrev pub stand : History → ℕ → Stand
stand h steps = record { history = h; steps = steps }

-- nothing was accepted, and no step was taken
abbrev pub Stays : Stand → Stand → Type 0
Stays s s' = (s'.history ≡ s.history) × (s'.steps ≤ s.steps)

-- what is held, what of it is kept, and how many steps were taken
pub record Running : Type 0 where
  pub held : History
  pub kept : History
  pub steps : ℕ

abbrev pub running : History → History → ℕ → Running
running held kept steps = record { held = held; kept = kept; steps = steps }

-- ---- What an engine holds, and why it does not accept a command.

-- its commands, in a journal whose length without them is what its records leave of its length
abbrev pub history_of : EngineState → History
history_of e = in_journal (e.journal.size - lengths_of e.history) e.journal.limit e.history

-- those of them that the disk has
abbrev pub kept_history : EngineState → History
kept_history e = in_journal (e.journal.size - lengths_of e.history) e.journal.limit (kept_of e)

-- the machine's fault for one of an engine that is open
abbrev pub fault_of : EngineFault → ActFault
fault_of (engine.Refused why) = fault.Refused why
fault_of (engine.JournalFull bytes) = fault.Full bytes
fault_of engine.DiskFault = fault.DiskFault
fault_of engine.OutOfMemory = fault.OutOfMemory
fault_of engine.NotJournal = fault.OutOfMemory
fault_of (engine.Damaged place) = fault.OutOfMemory
