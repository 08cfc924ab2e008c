-- The calls that a disk in memory keeps: where each write began and how long it was, and the bytes of all writes one
-- after the other.
use Rattle.std.specs.Prelude.{◌≡◌, ℕ, ◌+◌, List, [], ◌∷◌, length, take, drop}
use Rattle.serv_images.specs.DiskCalls.{DiskCall, Wrote, Shortened, Synced, now_of, synced_of, AreWithin}
use Rattle.serv_images.specs.declared.kept.Step.{Step}
use Rattle.serv_images.specs.declared.kept.Step.TheVariants.{Write, Cut, Sync}

-- how many bytes a call wrote, and the call with these bytes
abbrev pub bytes_of : Step → ℕ
bytes_of (Write at n) = n
bytes_of (Cut n) = 0
bytes_of Sync = 0

abbrev pub call_of : Step → List ℕ → DiskCall
call_of (Write at n) bytes = Wrote at bytes
call_of (Cut n) bytes = Shortened n
call_of Sync bytes = Synced

-- the calls, with the bytes of each, before some older ones
abbrev pub calls_of : List Step → List ℕ → List DiskCall → List DiskCall
calls_of [] pool older = older
calls_of (step ∷ later) pool older = calls_of later (drop (bytes_of step) pool) (call_of step (take (bytes_of step) pool) ∷ older)

-- how many bytes were written
abbrev pub bytes_in : List Step → ℕ
bytes_in [] = 0
bytes_in (step ∷ later) = bytes_of step + bytes_in later

-- what is kept fits together
pub record IsKept (first synced content pool : List ℕ) (steps : List Step) : Type 0 where
  pub content_is : content ≡ now_of first (calls_of steps pool [])
  pub synced_is : synced ≡ synced_of first (calls_of steps pool [])
  pub within : AreWithin first (calls_of steps pool [])
  pub pooled : bytes_in steps ≡ length pool

-- a disk's content at first, the calls that were made, and the room for further calls and bytes that is reserved
pub record KeptState : Type 0 where
  pub first : List ℕ
  pub made : List DiskCall
  pub room_calls : ℕ
  pub room : ℕ
