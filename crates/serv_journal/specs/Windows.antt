-- A window on a file, and reading through it.
use Rattle.std.specs.Prelude.{◌≡◌, ℕ, ◌+◌, ◌≤◌, List, Option, Some, length, take, drop}
use Rattle.serv_journal.specs.Stays.{Stays}
use Rattle.serv_disk.specs.Disks.{View}

-- how long the file is, and the bytes that the window holds from a place on
pub record WindowState : Type 0 where
  pub size : ℕ
  pub at : ℕ
  pub bytes : List ℕ

pub record Shows (window : WindowState) (file : List ℕ) : Type 0 where
  pub size : window.size ≡ length file
  pub bytes : window.bytes ≡ take (length window.bytes) (drop window.at file)

-- the window has so many bytes from a place on
abbrev pub Has : WindowState → ℕ → ℕ → Type 0
Has window place count = (window.at ≤ place) × (place + count ≤ window.at + length window.bytes)

-- the window shows the file that the disk tells
abbrev pub ShowsTold : Option (List ℕ) → WindowState → Type 0
ShowsTold told window = (s : List ℕ) → told ≡ Some s → Shows window s

-- a run of reads through a window: the disk stays as it was, its count of faults does not fall, and the
-- window shows it
pub record IsReading {D : Type 0} (view : D → View) (faults : D → ℕ) (old new : D) (before after : WindowState) : Type 0 where
  pub stays : Stays view old new
  pub later : faults old ≤ faults new
  pub size : after.size ≡ before.size
  pub shows : ShowsTold (view new).seen after
