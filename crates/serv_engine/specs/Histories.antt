-- Which contents of a disk keep which history of accepted commands.
use Rattle.std.specs.Prelude.{ℕ, ◌+◌, List, length, map, sum_by}
use Rattle.svc_types.specs.declared.requests.Request.TheVariants as request
use Rattle.svc_world.specs.World.{Accepted}
use Rattle.serv_line.specs.Lines.{line_of}
use Rattle.serv_journal.specs.Format.{Form}
use Rattle.serv_journal.specs.Disks.{IsGoodIn, IsGood, IsAround}

-- the line of an accepted command, and the lines of a history: those of its journal's records
abbrev pub line_of_command : Accepted → List ℕ
line_of_command a = line_of (request.Do a.key a.command)

abbrev pub lines_of_history : List Accepted → List (List ℕ)
lines_of_history h = map line_of_command h

-- the bytes of an accepted command in a journal of version 2: its commit byte, its number, its length, its line
abbrev pub record_length : Accepted → ℕ
record_length a = 7 + length (line_of_command a)

-- those of a history
abbrev pub lengths_of : List Accepted → ℕ
lengths_of h = sum_by record_length h

-- a content has a history, whole; or torn with one command more; or whole with it
abbrev pub IsGoodFor : Form → List Accepted → Accepted → List ℕ → Type 0
IsGoodFor form h a file = IsGoodIn form (lines_of_history h) (line_of_command a) file

-- what a content has at any moment until the begun command, if one is, is committed: the history, with it or without,
-- or torn with it
abbrev pub IsAroundFor : Form → List Accepted → List Accepted → List ℕ → Type 0
IsAroundFor form h begun file = IsAround form (lines_of_history h) (lines_of_history begun) file

-- a content is good for a history and a command in either version, as a disk is found before it is opened
abbrev pub IsGoodFound : List Accepted → Accepted → List ℕ → Type 0
IsGoodFound h a file = IsGood (lines_of_history h) (line_of_command a) file
