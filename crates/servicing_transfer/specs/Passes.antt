-- What each accepted command adds to what is found of a part.
use Rattle.std.specs.Prelude.{ℕ, ◌+◌, ◌-◌, min, Bool, false, get_or, map, length, List, [], ◌∷◌, Option, Some, None, if◌then◌else◌}
use Rattle.std.specs.List.{range_with_len}
use Rattle.svc_world.specs.World.{Accepted}
use Rattle.servicing_transfer.specs.Parts.{with_board, is_part, place_in, moved_to}

-- the least boarded month with one more command
abbrev pub least_with : (ℕ → Bool) → Option ℕ → Option Accepted → Option ℕ
least_with set least None = least
least_with set least (Some a) = with_board set least a.command

-- the part keeps a command, if there is one
abbrev pub keeps : (ℕ → Bool) → (ℕ → Bool) → Option Accepted → Bool
keeps set months None = false
keeps set months (Some a) = is_part set months a

-- what the part has of a command: the command with its new numbers, where it keeps it
abbrev pub part_with : (ℕ → Bool) → (ℕ → Bool) → (ℕ → ℕ) → Option Accepted → List Accepted
part_with set months place None = []
part_with set months place (Some a) = if is_part set months a then moved_to place a ∷ [] else []

-- the places of the numbers from 0 to n
abbrev pub places_to : (ℕ → Bool) → List Accepted → ℕ → List ℕ
places_to set h n = map (place_in set h) (range_with_len 0 (n + 1))

-- a place in a list of those of all numbers from 0 on; that of a greater number is the last
abbrev pub place_among : List ℕ → ℕ → ℕ
place_among places number = get_or places (min number (length places - 1)) 0
