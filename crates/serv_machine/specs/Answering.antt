-- What is said is acted on in order, and its replies are written, at once or a little later; and how that stops. Lines, rows of a
-- file and requests of a connection are answered so.
use Rattle.std.specs.Prelude.{◌≡◌, ◌⊎◌, ℕ, ◌+◌, ◌≤◌, List, [], ◌∷◌, ◌++◌, length, Option}
use Rattle.std.specs.Io.KnownBytes.{Appends}
use Rattle.svc_world.specs.World.{Accepted}
use Rattle.serv_disk.specs.Faults.{IsProperPrefix}
use Rattle.serv_machine.specs.declared.faults.Stop.{Stop}
use Rattle.serv_machine.specs.declared.faults.Stop.TheVariants.{WriteFault, DiskFault, OutOfMemory}
use Rattle.serv_machine.specs.History.{History, IsKeptBut, Stand, Running, Stays, stand}
use Rattle.serv_machine.specs.OnDisk.{OnDisk}
use Rattle.serv_machine.specs.Sayings.{Saying, AreFirst, reply_to, history_after, bound_of, IsFresh, history_after_all, replies_to, MovesAll, Starves, Sticks}
use Rattle.serv_disk.specs.Disks.{View}

-- ---- what is written

-- all of it was acted on, and its replies are written
pub record Answers (Whole : List Saying → Type 0) (s s' : Stand) (written : List ℕ) : Type 0 where
  pub said : List Saying
  pub whole : Whole said
  pub text : written ≡ replies_to s.history said
  pub moved : MovesAll said s s'

-- of the replies to what was acted on a front part that is not all of it is written; of those to all but the last, at most so many
-- bytes are missing
pub record IsCutIn (First : List Saying → List Saying → Type 0) (waiting : ℕ) (s s' : Stand) (written : List ℕ) : Type 0 where
  pub done : List Saying
  pub last : Saying
  pub first : First done (last ∷ [])
  pub moved : MovesAll (done ++ last ∷ []) s s'
  pub cut : IsProperPrefix written (replies_to s.history (done ++ last ∷ []))
  pub late : length (replies_to s.history done) ≤ length written + waiting

-- it has no reply: the disk failed while its command was being appended, or no memory was there
abbrev pub HasNone : Stop → Saying → Stand → Stand → List Accepted → Type 0
HasNone WriteFault said s s' pending = ⊥
HasNone DiskFault said s s' pending = Sticks said s s' pending
HasNone OutOfMemory said s s' pending = (pending ≡ []) × Starves said s s'

-- what comes next has none; no memory may be there before anything more is said
abbrev pub NextHasNone : Stop → List Saying → Stand → Stand → List Accepted → Type 0
NextHasNone why [] s s' pending = (why ≡ OutOfMemory) × (pending ≡ []) × Stays s s'
NextHasNone why (next ∷ []) s s' pending = HasNone why next s s' pending
NextHasNone why (next ∷ (other ∷ more)) s s' pending = ⊥

-- the replies to what comes first are written, but for at most so many bytes at the end; and what comes next has none
pub record AnsweredBut (why : Stop) (First : List Saying → List Saying → Type 0) (waiting : ℕ) (s s' : Stand) (pending : List Accepted) (written : List ℕ) : Type 0 where
  pub done : List Saying
  pub ahead : List Saying
  pub first : First done ahead
  pub mid : Stand
  pub moved : MovesAll done s mid
  pub next : NextHasNone why ahead mid s' pending
  pub rest : List ℕ
  pub text : replies_to s.history done ≡ written ++ rest
  pub few : length rest ≤ waiting

-- what is kept and written where nothing further is answered, and the command that was being appended
abbrev pub IsStopped : Stop → (List Saying → List Saying → Type 0) → ℕ → Stand → Stand → List Accepted → List ℕ → Type 0
IsStopped WriteFault First waiting s s' pending written = (pending ≡ []) × IsCutIn First waiting s s' written
IsStopped other First waiting s s' pending written = AnsweredBut other First waiting s s' pending written

-- so many bytes are the replies to what comes first, after which these commands are accepted
pub record AreReplies (Whole : List Saying → Type 0) (h : History) (bytes : ℕ) (commands : List Accepted) : Type 0 where
  pub said : List Saying
  pub first : AreFirst Whole said []
  pub bytes_are : bytes ≡ length (replies_to h said)
  pub commands_are : commands ≡ (history_after_all h said).commands

-- ---- with what is left on a disk

module _ {D : Type 0} (view : D → View) (old new : D) where
  -- this is said of the command that was being appended, which is the one of the disk
  pub record Leaves (says : List Accepted → Type 0) (h h' : History) : Type 0 where
    pub pending : List Accepted
    pub says_so : says pending
    pub disk : OnDisk view old new h h' pending

  -- and of what is written to a sink too
  pub record Writes (says : List Accepted → List ℕ → Type 0) (h h' : History) (held held' : Option (List ℕ)) : Type 0 where
    pub pending : List Accepted
    pub written : List ℕ
    pub wrote : Appends held held' written
    pub says_so : says pending written
    pub disk : OnDisk view old new h h' pending

-- ---- replies that are gathered

-- it was acted on, and the reply to it is at the end of a text; its command may be begun
pub record IsReplied (said : Saying) (t t' : Running) (text text' : List ℕ) : Type 0 where
  pub added : text' ≡ text ++ reply_to t.held said
  pub after : t'.held ≡ history_after t.held said
  pub held : IsKeptBut (IsFresh t.held said) t.held t'.held t'.kept
  pub cost : t'.steps ≤ t.steps + bound_of t.held said

-- the command of the last one is begun; all before it is kept, and the replies to that are written, but for at most so many bytes
-- at the end
pub record IsHeldBack (waiting : ℕ) (said : List Saying) (h kept : History) (written : List ℕ) : Type 0 where
  pub done : List Saying
  pub last : Saying
  pub said_are : said ≡ done ++ last ∷ []
  pub kept_is : kept ≡ history_after_all h done
  pub fresh : IsFresh kept last
  pub rest : List ℕ
  pub text : replies_to h done ≡ written ++ rest
  pub few : length rest ≤ waiting

-- all of it was acted on, and its replies are written but for a text; of those to all but the last no more than so many bytes are
-- missing. All is kept, or all but the last command
pub record Gathered (waiting : ℕ) (said : List Saying) (s : Stand) (t : Running) (held held' : Option (List ℕ)) (text : List ℕ) : Type 0 where
  pub moved : MovesAll said s (stand t.held t.steps)
  pub written : List ℕ
  pub wrote : Appends held held' written
  pub gathered : written ++ text ≡ replies_to s.history said
  pub late : (done : List Saying) (last : Saying) → said ≡ done ++ last ∷ [] → length (replies_to s.history done) ≤ length written + waiting
  pub kept : (t.kept ≡ t.held) ⊎ IsHeldBack waiting said s.history t.kept written

-- of a text a front part is written, or all of it, and this is left
pub record IsWrittenBut (held held' : Option (List ℕ)) (text left : List ℕ) : Type 0 where
  pub part : List ℕ
  pub wrote : Appends held held' part
  pub joined : text ≡ part ++ left
