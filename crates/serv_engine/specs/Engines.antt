-- What callers see of an engine, and when a disk keeps its history.
use Rattle.std.specs.Prelude.{◌≡◌, ℕ, ◌-◌, List, [], length, take, drop, Option, None, Some}
use Rattle.svc_world.specs.World.{Accepted}
use Rattle.svc_world.specs.Judging.{Judgement, Kept, Fresh}
use Rattle.svc_types.specs.declared.replies.Reply.{Reply}
use Rattle.serv_journal.specs.Format.{Form}
use Rattle.serv_journal.specs.States.{JournalState}
use Rattle.serv_journal.specs.Disks.{IsKept, IsDurableFor}
use Rattle.serv_engine.specs.Histories.{lines_of_history}
use Rattle.serv_engine.specs.declared.taken.Taken.{Taken}
use Rattle.serv_engine.specs.declared.taken.Taken.TheVariants.{Settled, Begun}

-- the accepted commands with their keys, and the journal
pub record EngineState : Type 0 where
  pub history : List Accepted
  pub journal : JournalState

-- a history but for its last command while that is begun, and that command
abbrev pub kept_by : Option ℕ → List Accepted → List Accepted
kept_by None h = h
kept_by (Some gate) h = take (length h - 1) h

abbrev pub begun_by : Option ℕ → List Accepted → List Accepted
begun_by None h = []
begun_by (Some gate) h = drop (length h - 1) h

-- the commands that the disk keeps, and the one that is begun, if one is
abbrev pub kept_of : EngineState → List Accepted
kept_of e = kept_by e.journal.begun e.history

abbrev pub begun_of : EngineState → List Accepted
begun_of e = begun_by e.journal.begun e.history

-- the journal has the engine's history in this form, and each image of the disk what is kept of it
abbrev pub IsRunningIn : Form → (List ℕ → Type 0) → EngineState → Type 0
IsRunningIn form images e = IsKept form images e.journal (lines_of_history (kept_of e)) (lines_of_history (begun_of e))

-- the same in some form
pub record IsRunning (images : List ℕ → Type 0) (e : EngineState) : Type 0 where
  pub form : Form
  pub kept : IsRunningIn form images e

-- no command is begun: each image of the disk has the whole history, in this form or in some form
abbrev pub IsDurableIn : Form → (List ℕ → Type 0) → EngineState → Type 0
IsDurableIn form images e = IsKept form images e.journal (lines_of_history e.history) []

abbrev pub IsDurable : (List ℕ → Type 0) → EngineState → Type 0
IsDurable images e = IsDurableFor images e.journal (lines_of_history e.history)

-- the reply that is given with what became of a command
abbrev pub reply_of : Taken → Reply
reply_of (Settled reply) = reply
reply_of (Begun reply) = reply

-- what became of a command by what is judged of it: a kept reply changes nothing; a fresh command is begun behind all
-- commands before it, which the disk keeps then
abbrev pub WasTaken : Judgement → Taken → Type 0 → Type 0 → Type 0
WasTaken said (Settled reply) unchanged behind = (said ≡ Kept reply) × unchanged
WasTaken said (Begun reply) unchanged behind = (said ≡ Fresh) × behind
