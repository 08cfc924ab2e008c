-- The content that a crash of a disk in memory leaves, by its choice.
use Rattle.std.specs.Prelude.{ℕ, ◌-◌, Bool, List, [], ◌∷◌, ◌++◌, length, take, min, max, if◌then◌else◌, replicate}
use Rattle.serv_images.specs.DiskCalls.{DiskCall, Wrote, Shortened, Synced, written, now_of, synced_of}
use Rattle.serv_images.specs.declared.torn.Torn.{Torn}
use Rattle.serv_images.specs.declared.torn.Torn.TheVariants.{Old, New, Zero, Ones}

-- bytes over a file, within its length
abbrev pub laid : ℕ → List ℕ → List ℕ → List ℕ
laid at bytes file = take (length file) (written at bytes file)

-- a file of this length: cut, or filled with zeros
abbrev pub sized : ℕ → List ℕ → List ℕ
sized size file = take size file ++ replicate (size - length file) 0

-- what is left of a write that was not synced: nothing, its bytes, zeros, or ones in each bit
abbrev pub torn_write : Torn → ℕ → List ℕ → List ℕ → List ℕ
torn_write Old at bytes file = file
torn_write New at bytes file = laid at bytes file
torn_write Zero at bytes file = laid at (replicate (length bytes) 0) file
torn_write Ones at bytes file = laid at (replicate (length bytes) 255) file

-- a file of this size: the content at the last sync, and over it what is left of each write since, in their order
abbrev pub torn_file : Torn → List ℕ → ℕ → List DiskCall → List ℕ
torn_file torn synced size [] = sized size synced
torn_file torn synced size (Wrote at bytes ∷ older) = torn_write torn at bytes (torn_file torn synced size older)
torn_file torn synced size (Shortened n ∷ older) = torn_file torn synced size older
torn_file torn synced size (Synced ∷ older) = sized size synced

-- the longer or the shorter of the lengths at the last sync and now
abbrev pub crash_size : Bool → List ℕ → List ℕ → ℕ
crash_size longer old new = if longer then max (length old) (length new) else min (length old) (length new)

-- the content after the crash
abbrev pub crashed : Torn → Bool → List ℕ → List DiskCall → List ℕ
crashed torn longer first calls =
    torn_file torn (synced_of first calls) (crash_size longer (synced_of first calls) (now_of first calls)) calls
