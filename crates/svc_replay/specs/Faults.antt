-- Why a posting or a reversal is refused.
use Rattle.std.specs.Prelude.{◌≡◌, ℕ, ◌≤◌, ◌<◌, true, is_some, Some, None, length}
use Rattle.svc_replay.specs.declared.fault.BookFault.{BookFault}
use Rattle.svc_replay.specs.declared.fault.BookFault.TheVariants.{Full, NoSuchEntry, AlreadyReversed}
use Rattle.svc_replay.specs.declared.fault.BookFault.TheVariants.{OutOfMemory}
use Rattle.svc_spec.specs.Accounts.{Account, entry_of, reverser_of}

-- the most entries that an account holds, reversed ones counted
abbrev pub most_entries : ℕ
most_entries = 4_096

-- no entry is added to a full account; memory is wanted only where there is no room for an entry
abbrev pub IsPostFault : Account → ℕ → BookFault → Type 0
IsPostFault a room Full = most_entries ≤ length a.entries
IsPostFault a room NoSuchEntry = ⊥
IsPostFault a room (AlreadyReversed by) = ⊥
IsPostFault a room OutOfMemory = (length a.entries < most_entries) × (room ≡ 0)

-- an entry is reversed once; memory is wanted only where there is no room for a reversal
abbrev pub IsReverseFault : Account → ℕ → ℕ → BookFault → Type 0
IsReverseFault a number room Full = ⊥
IsReverseFault a number room NoSuchEntry = entry_of a number ≡ None
IsReverseFault a number room (AlreadyReversed by) =
    (is_some (entry_of a number) ≡ true) × (reverser_of a number ≡ Some by)
IsReverseFault a number room OutOfMemory =
    (is_some (entry_of a number) ≡ true) × (reverser_of a number ≡ None) × (room ≡ 0)
