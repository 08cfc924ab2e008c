-- Records whose lines lie in one run of bytes.
use Rattle.std.specs.Prelude.{ℕ, ◌-◌, ◌≤◌, List, map, length, take, drop}
use Rattle.std.specs.List.{All}
use Rattle.serv_journal.specs.declared.frames.Frame.{Frame}

-- a line with its place
abbrev pub shown : List ℕ → Frame → ℕ × List ℕ
shown bytes frame = (frame.place, take (frame.end - frame.start) (drop frame.start bytes))

abbrev pub frames_of : List ℕ → List Frame → List (ℕ × List ℕ)
frames_of bytes list = map (shown bytes) list

-- it lies within the bytes
abbrev pub IsWithin : List ℕ → Frame → Type 0
IsWithin bytes frame = (frame.start ≤ frame.end) × (frame.end ≤ length bytes)

abbrev pub AreWithin : List ℕ → List Frame → Type 0
AreWithin bytes list = All (IsWithin bytes) list
