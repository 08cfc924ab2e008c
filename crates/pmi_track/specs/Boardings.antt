-- The terms with which loans were boarded.
use Rattle.std.specs.Prelude.{◌≡◌, ℕ, ◌==◌, if◌then◌else◌, fold, List, Option, Some, None}
use Rattle.svc_types.specs.declared.terms.Terms.{Terms}
use Rattle.svc_types.specs.declared.requests.Command.{Command}
use Rattle.svc_types.specs.declared.requests.Command.TheVariants as command
use Rattle.svc_world.specs.World.{Accepted}

-- the terms of a loan after one more command
abbrev pub with_terms : ℕ → Option Terms → Command → Option Terms
with_terms id terms (command.Board loan t) = if loan == id then Some t else terms
with_terms id terms c = terms

-- the terms of the last command that boarded a loan of that number; there is one at most
abbrev pub boarded_terms : ℕ → List Accepted → Option Terms
boarded_terms id h = fold (λ terms (a : Accepted). with_terms id terms a.command) None h

-- the same after the command with a number, where there is one
abbrev pub with_nth : ℕ → Option Terms → Option Accepted → Option Terms
with_nth id terms None = terms
with_nth id terms (Some a) = with_terms id terms a.command

-- a table has the terms of each loan
abbrev pub IsTable : (ℕ → Option Terms) → List Accepted → Type 0
IsTable look_up h = (id : ℕ) → look_up id ≡ boarded_terms id h
