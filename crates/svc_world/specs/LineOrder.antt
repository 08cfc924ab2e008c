-- In which order a loan's escrow lines stand: that of the commands that made them. A line that is set again keeps its place.
use Rattle.std.specs.Prelude.{◌≡◌, ℕ, ◌==◌, not, if◌then◌else◌, List, [], ◌∷◌, ◌++◌, map}
use Rattle.std.specs.List.{filter, list_any}
use Rattle.std.specs.Option.{option_map_or}
use Rattle.escrow_lines.specs.declared.line.Line.{Line}
use Rattle.svc_world.specs.Held.{Held, find_loan}
use Rattle.svc_world.specs.World.{Accepted, world}
use Rattle.svc_world.specs.LoanCommands.{Saying, Sets, Drops, said_of}

-- the numbers of a loan's lines after what a command says: they stay where the line that is set is among them, it comes last
-- where it is not, and one that is dropped goes
abbrev pub ids_with : List ℕ → Saying → List ℕ
ids_with ids (Sets line) = if list_any (λ i. i == line.id) ids then ids else ids ++ line.id ∷ []
ids_with ids (Drops dropped) = filter (λ i. not (i == dropped)) ids
ids_with ids s = ids

-- after what several say, one after another
abbrev pub ids_after : List ℕ → List Saying → List ℕ
ids_after ids [] = ids
ids_after ids (s ∷ more) = ids_after (ids_with ids s) more

-- a loan's lines stand in the order in which commands made them; of a loan that is not there, there are none
abbrev pub AreInOrder : List Accepted → ℕ → Type 0
AreInOrder h id =
    option_map_or (λ (l : Held). map (λ (line : Line). line.id) l.lines) (find_loan id (world h).loans) []
    ≡ ids_after [] (said_of id h)
