-- Calls that leave a disk as it was.
use Rattle.std.specs.Prelude.{◌≡◌}
use Rattle.serv_disk.specs.Disks.{Each, LeavesOnly, View}

-- what reads give is the same, and a crash then or at any moment since leaves what it might have left before
pub record Stays {D : Type 0} (view : D → View) (old new : D) : Type 0 where
  pub told : (view new).seen ≡ (view old).seen
  pub crash : Each (view new).images (view old).images
  pub moments : LeavesOnly view old new (view old).images
