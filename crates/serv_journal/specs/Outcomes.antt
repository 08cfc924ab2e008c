-- Which faults a call may answer.
use Rattle.std.specs.Prelude.{◌≡◌, ◌⊎◌, ℕ, ◌≤◌, List, Option, Some, Result, MatchResult, length}
use Rattle.serv_disk.specs.Faults.{HasRisen}
use Rattle.serv_journal.specs.declared.faults.JournalFault.{JournalFault}
use Rattle.serv_journal.specs.declared.faults.JournalFault.TheVariants.{NotJournal, Damaged, DiskFault, OutOfMemory}

-- want of memory, or a fault of the disk, whose count has risen
abbrev pub IsPassing : ℕ → ℕ → JournalFault → Type 0
IsPassing old new fault = (fault ≡ OutOfMemory) ⊎ ((fault ≡ DiskFault) × HasRisen old new)

-- no Ok, and no other fault than this one and passing ones
abbrev pub IsOnlyFault : {T : Type 0} → JournalFault → ℕ → ℕ → Result T JournalFault → Type 0
IsOnlyFault fault old new result = MatchResult result (λ _. ⊥) (λ other. (other ≡ fault)
    ⊎ IsPassing old new other)

-- where the disk tells what reads give, that reaches a place
abbrev pub Reaches : Option (List ℕ) → ℕ → Type 0
Reaches told place = (s : List ℕ) → told ≡ Some s → place ≤ length s

-- a fault of opening
abbrev pub IsOpenFault : ℕ → ℕ → JournalFault → Type 0
IsOpenFault old new fault = (fault ≡ NotJournal)
    ⊎ (((place : ℕ) × (fault ≡ Damaged place)) ⊎ IsPassing old new fault)
