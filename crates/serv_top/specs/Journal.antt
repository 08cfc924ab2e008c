-- What a run over a journal does to the disk: one is opened, and then requests are answered over it.
use Rattle.std.specs.Prelude.{ℕ, List, Option}
use Rattle.svc_world.specs.World.{Accepted}
use Rattle.serv_disk.specs.Stamps.{Stamp}
use Rattle.serv_machine.specs.Answering.{AreReplies}
use Rattle.serv_machine.specs.History.{in_journal, Stand, stand}
use Rattle.serv_machine.specs.OnDisk.{OnDisk, IsAcknowledged}
use Rattle.serv_machine.specs.Sayings.{SaidFirst}
use Rattle.serv_texts.specs.declared.status.Status.{Status}
use Rattle.serv_texts.specs.Journal.{IsOpened, journal_limit}
use Rattle.serv_top.specs.Outcome.{Ended, StaySound}
use Rattle.serv_top.specs.Lines.{Says, lines_of}
use Rattle.serv_disk.specs.Disks.{View}

-- a journal was opened, after which the disk was this one; and then requests were answered over it, which ends so
pub record IsRunOver {D : Type 0} (Ends : Stand → Stand → List Accepted → Type 0) (view : D → View) (old new : D) (steps steps' : ℕ) : Type 0 where
  pub commands : List Accepted
  pub base : ℕ
  pub opened : D
  pub begun : ℕ
  pub opening : IsOpened view old opened steps begun base commands
  -- the commands after it, and the one that was being appended
  pub after : List Accepted
  pub pending : List Accepted
  pub ended : Ends (stand (in_journal base journal_limit commands) begun) (stand (in_journal base journal_limit after) steps') pending
  pub sound : StaySound commands after pending
  -- at each moment each image has some first ones of these commands, or is torn with the next one
  pub disk : OnDisk view opened new (in_journal base journal_limit commands) (in_journal base journal_limit after) pending

-- one was opened, and then lines were answered over it; from the moment of each write on, and at exit, each image has every
-- command that is answered by what was written by then
abbrev pub IsApplied : {D : Type 0} → (D → View) → D → D → Status → ℕ → ℕ
    → Option (List ℕ) → Option (List ℕ) → Option (List ℕ) → Option (List ℕ) → Option (List Stamp) → Option (List Stamp) → Type 0
IsApplied view old new status steps steps' left left' held held' log log' =
    IsRunOver (λ s s' pending. Ended 0 status s s' pending left left' held held'
    × IsAcknowledged (λ taken. AreReplies (SaidFirst Says (lines_of taken)) s.history) (view new) s'.history left left' held log log') view old new steps steps'
