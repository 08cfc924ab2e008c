-- The numbers of the loans that a history boards, rising.
use Rattle.std.specs.Prelude.{ℕ, suc, nat_lt, if◌then◌else◌, fold, List, [], ◌∷◌, Option, Some, None}
use Rattle.std.specs.List.{insert}
use Rattle.svc_types.specs.declared.requests.Command.{Command}
use Rattle.svc_types.specs.declared.requests.Command.TheVariants as command
use Rattle.svc_world.specs.World.{Accepted}

-- the place of a number: before the first that is greater
abbrev pub place_for : ℕ → List ℕ → ℕ
place_for n [] = 0
place_for n (x ∷ xs) = if nat_lt n x then 0 else suc (place_for n xs)

-- the numbers after a command: a loan that is boarded comes to its place
abbrev pub numbers_after : List ℕ → Command → List ℕ
numbers_after ns (command.Board id t) = insert ns (place_for id ns) id
numbers_after ns c = ns

abbrev pub numbers_with : List ℕ → Option Accepted → List ℕ
numbers_with ns None = ns
numbers_with ns (Some a) = numbers_after ns a.command

-- the numbers of all loans of a history
abbrev pub loans_of : List Accepted → List ℕ
loans_of h = fold (λ ns (a : Accepted). numbers_after ns a.command) [] h
