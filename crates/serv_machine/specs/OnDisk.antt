-- What a machine's calls leave on the disk, now and at each moment.
use Rattle.std.specs.Prelude.{◌≡◌, ◌⊎◌, ℕ, ◌+◌, List, [], ◌∷◌, ◌++◌, length, ⊤, ◌≤◌, Option, Some}
use Rattle.svc_world.specs.World.{Accepted}
use Rattle.svc_world.specs.Judging.{IsHistory}
use Rattle.serv_disk.specs.Disks.{Each, LeavesOnly, View}
use Rattle.serv_journal.specs.declared.format.Version.TheVariants.{Two}
use Rattle.serv_journal.specs.Format.{Form}
use Rattle.serv_journal.specs.Disks.{IsWhole}
use Rattle.serv_engine.specs.Histories.{lines_of_history, IsGoodFound}
use Rattle.serv_machine.specs.History.{Store, Memory, Journal, History, with_command, in_store}
use Rattle.std.specs.Io.KnownBytes.{Consumes}
use Rattle.serv_disk.specs.Stamps.{Stamp, Adds}

-- which form a store has: an open journal is of version 2, and its length without a command is that of the bytes before its records
-- and of the commit byte after them. So all contents that have a history have it behind as many bytes
abbrev pub IsFormOf : Store → Form → Type 0
IsFormOf Memory form = ⊤
IsFormOf (Journal base limit) form = (form.version ≡ Two) × (base ≡ length form.front + 1)

-- a content of a disk has a history, whole
pub record HasHistory (h : History) (file : List ℕ) : Type 0 where
  pub whole : IsWhole (lines_of_history h.commands) file
  pub form : IsFormOf h.store whole.form

-- the same, or it is torn with one command more, or whole with it
pub record IsGoodWith (h : History) (a : Accepted) (file : List ℕ) : Type 0 where
  pub good : IsGoodFound h.commands a file
  pub form : IsFormOf h.store good.form

-- a content has a history with some first ones of these commands: whole, or torn with the next one
abbrev pub IsAlong : History → List Accepted → List ℕ → Type 0
IsAlong h [] file = HasHistory h file
IsAlong h (a ∷ list) file = IsGoodWith h a file ⊎ IsAlong (with_command h a) list file

-- each image has the history; while a command is being appended, also torn with it, or whole with it
abbrev pub IsLeft : (List ℕ → Type 0) → History → List Accepted → Type 0
IsLeft images h [] = Each images (HasHistory h)
IsLeft images h (a ∷ more) = Each images (IsGoodWith h a)

-- a run of calls: the list of commands that it accepts, and that a history stays one with them, and with the command more that
-- was perhaps being appended; what a crash after it leaves; and at each moment the history with some first ones of all these
pub record OnDisk {D : Type 0} (view : D → View) (old new : D) (h h' : History) (pending : List Accepted) : Type 0 where
  pub list : List Accepted
  pub accepted : h'.commands ≡ h.commands ++ list
  pub store : h'.store ≡ h.store
  pub fresh : IsHistory h.commands → IsHistory h'.commands × IsHistory (h'.commands ++ pending)
  pub left : IsLeft (view new).images h' pending
  pub moments : LeavesOnly view old new (IsAlong h (list ++ pending))

-- a run of calls in which the disk failed: it accepts no command, and perhaps the next one of these was being appended
pub record IsTorn {D : Type 0} (view : D → View) (old new : D) (h all : History) : Type 0 where
  pub next : Accepted
  pub rest : List Accepted
  pub all_are : all.commands ≡ h.commands ++ next ∷ rest
  pub disk : OnDisk view old new h h (next ∷ [])

-- ---- What a crash leaves of the commands that are answered by what is written.

-- a content of a disk has all these commands, and perhaps later ones: whole, or torn in a later one
pub record HasCommands (h : History) (file : List ℕ) : Type 0 where
  pub later : List Accepted
  pub along : IsAlong h later file

-- A write of replies, where the sink held so many bytes before the first of them. What is written by its end is within the
-- replies to some first requests, which so many bytes cover and after which these commands are accepted; and from the write's
-- moment on each image has all of them. The disk has come to this moment, and these commands are accepted now.
pub record IsUpheld (Covers : ℕ → List Accepted → Type 0) (view : View) (now : History) (base : ℕ) (write : Stamp) : Type 0 where
  pub bytes : ℕ
  pub commands : List Accepted
  pub covers : Covers bytes commands
  pub within : write.upto ≤ base + bytes
  pub kept : Each (view.since write.at) (HasCommands (in_store now.store commands))
  pub past : write.at ≤ view.moment
  pub rest : List Accepted
  pub now_is : now.commands ≡ commands ++ rest

abbrev pub AreUpheld : (ℕ → List Accepted → Type 0) → View → History → ℕ → List Stamp → Type 0
AreUpheld Covers view now base [] = Unit {0}
AreUpheld Covers view now base (write ∷ writes) =
    IsUpheld Covers view now base write × AreUpheld Covers view now base writes

-- so is each write that was noted
pub record UpholdsFrom (Covers : ℕ → List Accepted → Type 0) (view : View) (now : History) (base : ℕ) (log log' : Option (List Stamp)) : Type 0 where
  pub writes : List Stamp
  pub noted : Adds log log' writes
  pub each : AreUpheld Covers view now base writes

-- where the sink told what it held
abbrev pub Upholds : (ℕ → List Accepted → Type 0) → View → History → Option (List ℕ) → Option (List Stamp) → Option (List Stamp) → Type 0
Upholds Covers view now held log log' =
    (s : List ℕ) → held ≡ Some s → UpholdsFrom Covers view now (length s) log log'

-- of a run that took its requests from a source: each write that it noted is upheld
pub record IsAcknowledged (Covers : List ℕ → ℕ → List Accepted → Type 0) (view : View) (now : History) (left left' held : Option (List ℕ)) (log log' : Option (List Stamp)) : Type 0 where
  pub taken : List ℕ
  pub took : Consumes left left' taken
  pub upheld : Upholds (Covers taken) view now held log log'
