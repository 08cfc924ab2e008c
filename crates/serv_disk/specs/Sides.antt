-- What one side of a link sees of the other.
use Rattle.std.specs.Prelude.{ℕ, List, Option, None}
use Rattle.serv_disk.specs.Stamps.{Stamp}

-- the side that is read: the bytes that are left, where the object tells them, and its count of faults
pub record Reading : Type 0 where
  pub left : Option (List ℕ)
  pub faults : ℕ

-- the side that is written: the bytes that it holds, where the object tells them, its count of faults, its writes where it
-- notes them, and the moment from which its next write counts
pub record Writing : Type 0 where
  pub held : Option (List ℕ)
  pub faults : ℕ
  pub log : Option (List Stamp)
  pub mark : ℕ

-- an object that is written alone, and one that is read alone
abbrev pub no_reading : Reading
no_reading = record { left = None; faults = 0 }

abbrev pub no_writing : Writing
no_writing = record { held = None; faults = 0; log = None; mark = 0 }
