-- Records read one after the other.
use Rattle.std.specs.Prelude.{◌≡◌, ℕ, ◌+◌, ◌≤◌, List, ◌++◌, length, take}
use Rattle.serv_journal.specs.declared.format.Version.{Version}
use Rattle.serv_journal.specs.Format.{AreLines, records}
use Rattle.serv_journal.specs.Reading.{lines_in, placed}

-- these are records from one place to another, by their lengths alone
pub record IsPlaced (version : Version) (at : ℕ) (frames : List (ℕ × List ℕ)) (place : ℕ) : Type 0 where
  pub fit : AreLines (lines_in frames)
  pub places : frames ≡ placed version at 1 (lines_in frames)
  pub end : place ≡ at + length (records version 1 (lines_in frames))

-- the file has these records from one place to another
pub record IsScanned (version : Version) (at : ℕ) (frames : List (ℕ × List ℕ)) (place : ℕ)
    (file : List ℕ) : Type 0 where
  pub within : place ≤ length file
  pub is : take place file ≡ take at file ++ records version 1 (lines_in frames)
