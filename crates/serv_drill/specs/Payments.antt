-- The number of a loan's last payment among accepted commands.
use Rattle.std.specs.Prelude.{ℕ, ◌+◌, ◌==◌, Bool, false, List, [], ◌∷◌, Option, Some, None, if◌then◌else◌}
use Rattle.svc_types.specs.declared.requests.Command.{Command}
use Rattle.svc_types.specs.declared.requests.Command.TheVariants as command
use Rattle.svc_world.specs.World.{Accepted}

-- the command is a payment of the loan
abbrev pub is_payment_of : ℕ → Command → Bool
is_payment_of loan (command.Pay l d c over) = l == loan
is_payment_of loan c = false

-- the same of a command that is perhaps there
abbrev pub is_payment_at : ℕ → Option Accepted → Bool
is_payment_at loan None = false
is_payment_at loan (Some a) = is_payment_of loan a.command

-- the number of the last payment of the loan among some commands of which the first has number k + 1; where none is, the
-- one that was found before
unfoldable pub last_from : ℕ → ℕ → List Accepted → ℕ → ℕ
last_from loan k [] found = found
last_from loan k (a ∷ more) found =
    last_from loan (k + 1) more (if is_payment_of loan a.command then k + 1 else found)

-- the number of the last payment of the loan in a history, 0 where there is none
abbrev pub last_payment : ℕ → List Accepted → ℕ
last_payment loan h = last_from loan 0 h 0
