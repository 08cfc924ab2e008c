-- What making a journal, or opening one, does to the disk.
use Rattle.std.specs.Prelude.{◌≡◌, ◌⊎◌, ℕ, ◌+◌, ◌^◌, ◌<◌, ◌≤◌, List, [], ◌∷◌, ◌++◌, length, Option, Some, ⊤}
use Rattle.svc_world.specs.World.{Accepted}
use Rattle.svc_world.specs.Judging.{IsHistory}
use Rattle.serv_disk.specs.Disks.{Each, LeavesOnly, View}
use Rattle.serv_disk.specs.Faults.{HasRisen}
use Rattle.serv_journal.specs.Reading.{IsNoJournal}
use Rattle.serv_engine.specs.Histories.{IsGoodFound, lengths_of}
use Rattle.serv_engine.specs.Opening.{IsDamagedAt, IsTooLong, IsFound, IsClosed, IsFoundWithin, history_bound}
use Rattle.serv_machine.specs.History.{in_journal}
use Rattle.serv_machine.specs.OnDisk.{HasHistory}
use Rattle.serv_texts.specs.declared.status.Status.{Status}
use Rattle.serv_texts.specs.declared.status.Status.TheVariants.{Done, DiskFault, NotJournal, AlreadyThere, Damaged, OutOfMemory, JournalFull}

-- the limit on a journal that is opened
abbrev pub journal_limit : ℕ
journal_limit = 2 ^ 28

-- ---- a journal is made

-- by the status, where the disk was and is seen so, and its count of faults was and is this
abbrev pub IsInit : Status → View → View → ℕ → ℕ → Type 0
IsInit Done old new faults faults' = Each new.images (HasHistory (in_journal 9 journal_limit []))
IsInit AlreadyThere old new faults faults' = ((s : List ℕ) → old.seen ≡ Some s → 9 < length s) × (new.seen ≡ old.seen)
IsInit DiskFault old new faults faults' = HasRisen faults faults'
IsInit other old new faults faults' = ⊥

-- ---- a journal is opened

-- a crash at any moment leaves a disk that was good for a history and a command as good
abbrev pub KeepsGood : {D : Type 0} → (D → View) → D → D → Type 0
KeepsGood view old new = (s : List ℕ) → (view old).seen ≡ Some s → (h : List Accepted) (a : Accepted)
    → IsHistory (h ++ a ∷ []) → Each (view old).images (IsGoodFound h a) → LeavesOnly view old new (IsGoodFound h a)

-- why none was opened
abbrev pub IsCause : Status → Option (List ℕ) → ℕ → ℕ → Type 0
IsCause NotJournal told faults faults' = (s : List ℕ) → told ≡ Some s → IsNoJournal s
IsCause (Damaged place) told faults faults' = (s : List ℕ) → told ≡ Some s → IsDamagedAt place s
IsCause (JournalFull bytes) told faults faults' = (s : List ℕ) → told ≡ Some s → IsTooLong journal_limit bytes s
IsCause DiskFault told faults faults' = HasRisen faults faults'
IsCause OutOfMemory told faults faults' = ⊤
IsCause other told faults faults' = ⊥

-- this status, want of memory, or a fault of the disk
abbrev pub IsOnly : Status → Status → Type 0
IsOnly only status = (status ≡ only) ⊎ ((status ≡ OutOfMemory) ⊎ (status ≡ DiskFault))

-- the faults of the file come exactly by their causes
pub record HasFileFaults (told : Option (List ℕ)) (status : Status) : Type 0 where
  pub not_journal : (s : List ℕ) → told ≡ Some s → IsNoJournal s → IsOnly NotJournal status
  pub damaged : (s : List ℕ) (place : ℕ) → told ≡ Some s → IsDamagedAt place s → IsOnly (Damaged place) status
  pub full : (s : List ℕ) (bytes : ℕ) → told ≡ Some s → IsTooLong journal_limit bytes s → IsOnly (JournalFull bytes) status

-- none was opened: for its cause; but for a fault of the disk, reads give the same, or the same with the closed commit byte 0
pub record IsUnopened {D : Type 0} (view : D → View) (faults : D → ℕ) (old new : D) (status : Status) (steps steps' : ℕ) : Type 0 where
  pub cause : IsCause status (view old).seen (faults old) (faults new)
  pub good : KeepsGood view old new
  pub kept : (status ≡ DiskFault) ⊎ (((view new).seen ≡ (view old).seen) ⊎ ((s : List ℕ) → (view old).seen ≡ Some s → IsClosed s (view new).seen))
  -- no step was taken, or those of the commands that were found and of the one that is the fault
  pub cost : (steps' ≡ steps) ⊎ IsFoundWithin (view old).seen steps steps'

-- one was opened, with these commands and this length without a command, by steps up to this number
pub record IsOpened {D : Type 0} (view : D → View) (old opened : D) (steps begun base : ℕ) (commands : List Accepted) : Type 0 where
  pub is_history : IsHistory commands
  pub found : (s : List ℕ) → (view old).seen ≡ Some s → IsFound journal_limit (base + lengths_of commands) commands s
  pub good : KeepsGood view old opened
  pub either : (s : List ℕ) → (view old).seen ≡ Some s → (h : List Accepted) (a : Accepted) → IsHistory (h ++ a ∷ [])
      → Each (view old).images (IsGoodFound h a) → (commands ≡ h) ⊎ (commands ≡ h ++ a ∷ [])
  pub whole : Each (view opened).images (HasHistory (in_journal base journal_limit commands))
  pub cost : begun ≤ steps + history_bound [] commands
