-- What a run has taken from its source, accepted and written to its sink when it ends with a status.
use Rattle.std.specs.Prelude.{◌≡◌, ℕ, ◌+◌, ◌<◌, ◌≤◌, ◌⊎◌, List, [], ◌∷◌, ◌++◌, length, take, Option}
use Rattle.std.specs.Io.KnownBytes.{IsAtEnd}
use Rattle.svc_world.specs.World.{Accepted, world}
use Rattle.svc_world.specs.Judging.{IsHistory, next_reply}
use Rattle.svc_world.specs.Laws.{AreLawful, ReportsGrow}
use Rattle.serv_disk.specs.Faults.{IsProperPrefix}
use Rattle.serv_machine.specs.declared.faults.Stop.{Stop}
use Rattle.serv_machine.specs.declared.faults.Stop.TheVariants as stop
use Rattle.serv_line.specs.Replies.{text_of_reply}
use Rattle.serv_engine.specs.Histories.{lengths_of}
use Rattle.serv_machine.specs.History.{History, Store, Memory, Journal, nothing, Stand, stand, Running}
use Rattle.serv_machine.specs.Sayings.{Saying, Say, SaidFirst, AreFirst, reply_to, history_after_all, replies_to, MovesAll}
use Rattle.serv_machine.specs.Answering.{Answers, Gathered, IsStopped}
use Rattle.serv_texts.specs.declared.status.Status.{Status}
use Rattle.serv_texts.specs.declared.status.Status.TheVariants.{Done, ReadFault, WriteFault, DiskFault, TooMuch, OutOfMemory}
use Rattle.serv_texts.specs.Input.{Exchanges, input_limit}
use Rattle.serv_top.specs.Lines.{Says, lines_of, ended_lines, open_line}

-- ---- lines

-- nothing further is answered of the lines that a line feed ended, or at the end of the input of all lines
abbrev pub AreStopped : Stop → ℕ → Stand → Stand → List Accepted → List ℕ → Option (List ℕ) → List ℕ → Type 0
AreStopped why waiting s s' pending taken left written =
    (length taken ≤ input_limit)
    × (IsStopped why (AreFirst (SaidFirst Says (ended_lines taken))) waiting s s' pending written
    ⊎ (IsAtEnd left × IsStopped why (AreFirst (SaidFirst Says (lines_of taken))) waiting s s' pending written))

-- what is accepted and written, and the steps of it, by the status, where these bytes are taken and these are left; the
-- machine stands so at the entry and so at the exit, and of the replies this many bytes may wait. Other statuses do not
-- come where lines are answered
abbrev pub IsOutput : ℕ → Status → Stand → Stand → List Accepted → List ℕ → Option (List ℕ) → List ℕ → Type 0
IsOutput waiting Done s s' pending taken left written =
    (pending ≡ []) × IsAtEnd left × (length taken < input_limit) × Answers (Say Says (lines_of taken)) s s' written
IsOutput waiting ReadFault s s' pending taken left written =
    (pending ≡ []) × (length taken < input_limit) × Answers (Say Says (ended_lines taken)) s s' written
IsOutput waiting (TooMuch n) s s' pending taken left written =
    (pending ≡ []) × (n ≡ length taken) × (n ≡ input_limit) × Answers (Say Says (ended_lines taken)) s s' written
IsOutput waiting WriteFault s s' pending taken left written = AreStopped stop.WriteFault waiting s s' pending taken left written
IsOutput waiting DiskFault s s' pending taken left written = AreStopped stop.DiskFault waiting s s' pending taken left written
IsOutput waiting OutOfMemory s s' pending taken left written = AreStopped stop.OutOfMemory waiting s s' pending taken left written
IsOutput waiting other s s' pending taken left written = ⊥

abbrev pub Ended : ℕ → Status → Stand → Stand → List Accepted → Option (List ℕ) → Option (List ℕ) → Option (List ℕ) → Option (List ℕ) → Type 0
Ended waiting status s s' pending left left' held held' =
    Exchanges (λ taken written. IsOutput waiting status s s' pending taken left' written) left left' held held'

-- the commands after a run are a history, and so are they with the command that was being appended; they are lawful: reports
-- with adjustments add up to the dues, and custodial cash is, to the cent, what is owed; and the reports that were sent
-- before it are the first ones of those after it
pub record StaySound (h h' pending : List Accepted) : Type 0 where
  pub is_history : IsHistory h'
  pub with_pending : IsHistory (h' ++ pending)
  pub lawful : AreLawful h'
  pub reports : ReportsGrow (world h) (world h')

-- a run in memory, which begins with nothing; of what is held at the exit nothing else is seen than that it is sound
pub record Ran (waiting : ℕ) (status : Status) (steps steps' : ℕ) (left left' held held' : Option (List ℕ)) : Type 0 where
  pub after : History
  pub sound : StaySound [] after.commands []
  pub ended : Ended waiting status (stand nothing steps) (stand after steps') [] left left' held held'

-- ---- where a write was cut

-- by what is written alone: the replies to what comes first are written whole, and of the reply to the next one a part that is not
-- all of it
pub record IsCutAt (First : List Saying → List Saying → Type 0) (h : History) (written : List ℕ) : Type 0 where
  pub said : List Saying
  pub last : Saying
  pub first : First said (last ∷ [])
  pub part : List ℕ
  pub text : written ≡ replies_to h said ++ part
  pub partial : IsProperPrefix part (reply_to (history_after_all h said) last)

-- the same where no reply may wait, as over a journal: all up to the last one were acted on
pub record IsCutOff (First : List Saying → List Saying → Type 0) (s s' : Stand) (written : List ℕ) : Type 0 where
  pub at : IsCutAt First s.history written
  pub moved : MovesAll (at.said ++ at.last ∷ []) s s'

-- ---- in its course

-- the lines that ended in these bytes were acted on so; of the piece after them the first 513 bytes are kept
pub record Served (waiting : ℕ) (bytes : List ℕ) (s : Stand) (t : Running) (held held' : Option (List ℕ)) (line text : List ℕ) : Type 0 where
  pub said : List Saying
  pub say : Say Says (ended_lines bytes) said
  pub gathers : Gathered waiting said s t held held' text
  pub line_is : line ≡ take 513 (open_line bytes)

-- ---- lines of commands that are taken on

-- a store has room for these commands and no others
abbrev pub HasRoomFor : Store → List Accepted → Type 0
HasRoomFor Memory commands = Unit {0}
HasRoomFor (Journal base limit) commands = base + lengths_of commands ≤ limit

-- the replies to commands that come after others, each to the next one, joined
abbrev pub replies_after : List Accepted → List Accepted → List ℕ
replies_after before [] = []
replies_after before (a ∷ more) = text_of_reply (next_reply before a.command) ++ replies_after (before ++ a ∷ []) more

-- lines were acted on as the commands of a history: these are what is held after them, and each has the reply to the
-- next command
pub record AreTakenOn (commands : List Accepted) (after : Stand) (written : List ℕ) : Type 0 where
  pub commands_are : after.history.commands ≡ commands
  pub replies : written ≡ replies_after [] commands
