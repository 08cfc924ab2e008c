-- How a run ends where nothing fails, by what the words ask for.
use Rattle.std.specs.Prelude.{ℕ, ◌≡◌, ◌⊎◌, ◌<◌, List, [], ◌∷◌, ◌++◌, length, true, Option, Some, ⊤}
use Rattle.svc_world.specs.World.{Accepted}
use Rattle.svc_world.specs.Judging.{IsHistory}
use Rattle.serv_disk.specs.Disks.{Each, View}
use Rattle.serv_engine.specs.Histories.{IsGoodFound}
use Rattle.serv_words.specs.declared.words.Task.{Task}
use Rattle.serv_words.specs.declared.words.Task.TheVariants.{Init, Apply, Session, Import, Write, Drill, Serve}
use Rattle.serv_words.specs.declared.texts.Text.TheVariants.{Show}
use Rattle.serv_words.specs.Asked.{reads_input}
use Rattle.serv_texts.specs.declared.status.Status.{Status}
use Rattle.serv_texts.specs.declared.status.Status.TheVariants.{Done, AlreadyThere, NoReport, OutOfMemory, JournalFull}
use Rattle.serv_texts.specs.Input.{input_limit}

-- the journal is opened for it
abbrev pub IsOverJournal : Task → Type 0
IsOverJournal Init = ⊥
IsOverJournal Session = ⊥
IsOverJournal (Drill loans number) = ⊥
IsOverJournal other = ⊤

-- the input is read for it
abbrev pub ReadsInput : Task → Type 0
ReadsInput Session = ⊤
ReadsInput Apply = ⊤
ReadsInput Import = ⊤
ReadsInput (Write text) = reads_input text ≡ true
ReadsInput other = ⊥

-- the input is told, and shorter than the limit
pub record IsShort (left : Option (List ℕ)) : Type 0 where
  pub input : List ℕ
  pub told : left ≡ Some input
  pub short : length input < input_limit

-- a told disk, each image of which is good for a history and a command more
pub record IsGoodDisk (disk : View) : Type 0 where
  pub content : List ℕ
  pub told : disk.seen ≡ Some content
  pub commands : List Accepted
  pub next : Accepted
  pub history : IsHistory (commands ++ next ∷ [])
  pub good : Each disk.images (IsGoodFound commands next)

-- its input is short, its disk is good, and of what it reads, writes, keeps or waits for nothing has failed
abbrev pub IsUndisturbed : Task → Option (List ℕ) → View → Type 0 → Type 0 → Type 0 → Type 0 → Type 0
IsUndisturbed Init left disk reads writes disks nets = ¬ disks
IsUndisturbed Session left disk reads writes disks nets = IsShort left × (¬ reads) × (¬ writes)
IsUndisturbed (Drill loans number) left disk reads writes disks nets = ¬ writes
IsUndisturbed (Serve port most) left disk reads writes disks nets = IsGoodDisk disk × (¬ writes) × (¬ disks) × (¬ nets)
IsUndisturbed (Write text) left disk reads writes disks nets =
    (reads_input text ≡ true → IsShort left × (¬ reads)) × IsGoodDisk disk × (¬ writes) × (¬ disks)
IsUndisturbed other left disk reads writes disks nets = IsShort left × IsGoodDisk disk × (¬ reads) × (¬ writes) × (¬ disks)

-- it is done, or memory was short, or the journal cannot be written anew
abbrev pub Completes : Status → Type 0
Completes status = (status ≡ Done) ⊎ ((status ≡ OutOfMemory) ⊎ ((bytes : ℕ) × (status ≡ JournalFull bytes)))

-- how it may end then
abbrev pub MayEnd : Task → Status → Type 0
MayEnd Init status = (status ≡ Done) ⊎ (status ≡ AlreadyThere)
MayEnd Session status = (status ≡ Done) ⊎ (status ≡ OutOfMemory)
MayEnd (Drill loans number) status = (status ≡ Done) ⊎ (status ≡ OutOfMemory)
MayEnd (Write (Show q)) status = Completes status ⊎ ((last : Option ℕ) × (status ≡ NoReport last))
MayEnd other status = Completes status
