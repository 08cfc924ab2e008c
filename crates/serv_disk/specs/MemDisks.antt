-- What contracts see of a disk in memory.
use Rattle.std.specs.Prelude.{ℕ, ◌<◌, ◌⊎◌, List, Option, Some, MatchOption, Contains, length}
use Rattle.serv_images.specs.DiskCalls.{DiskCall, now_of, IsImage, IsSince}
use Rattle.serv_disk.specs.Disks.{View}

-- the content at first and the calls that were made, the newest first; the room that is reserved for further calls
-- and bytes; the numbers of the calls that fail, and after which number all fail; how many calls there were, how
-- many of them failed, and the length of the longest read
pub record DiskState : Type 0 where
  pub first : List ℕ
  pub made : List DiskCall
  pub room_calls : ℕ
  pub room : ℕ
  pub fails : List ℕ
  pub stop : Option ℕ
  pub calls : ℕ
  pub faults : ℕ
  pub longest : ℕ

-- what reads give
abbrev pub content_of : DiskState → List ℕ
content_of disk = now_of disk.first disk.made

-- the same as what the disk tells
abbrev pub told : DiskState → Option (List ℕ)
told disk = Some (content_of disk)

-- what a crash now may leave
abbrev pub images_of : DiskState → List ℕ → Type 0
images_of disk = IsImage disk.first disk.made

-- all that is seen of it: a moment is the number of calls that were made
abbrev pub view_of : DiskState → View
view_of disk = record { seen = told disk; images = images_of disk; moment = length disk.made; since = IsSince disk.first disk.made }

-- the list or the stop lets the newest call fail
abbrev pub IsLetFail : DiskState → Type 0
IsLetFail disk = Contains disk.fails disk.calls ⊎ MatchOption disk.stop ⊥ (λ last. last < disk.calls)
