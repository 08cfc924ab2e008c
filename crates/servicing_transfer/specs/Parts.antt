-- The part of a history that a set of loans keeps: what a receiving servicer is handed, and what stays.
use Rattle.std.specs.Prelude.{ℕ, ◌&&◌, not, nat_le, min, Bool, true, false, fold, map, take, length, List, Option, Some, None, if◌then◌else◌}
use Rattle.std.specs.List.{filter}
use Rattle.svc_base.specs.Calendar.{month_of}
use Rattle.svc_types.specs.declared.requests.Command.{Command}
use Rattle.svc_types.specs.declared.requests.Command.TheVariants as command
use Rattle.svc_world.specs.declared.scope.Scope.{Scope}
use Rattle.svc_world.specs.declared.scope.Scope.TheVariants.{One, New, Every}
use Rattle.svc_world.specs.Scope.{scope_of}
use Rattle.svc_world.specs.World.{Accepted, accepted}

-- the loans from one number to another, and all others
abbrev pub in_range : ℕ → ℕ → ℕ → Bool
in_range low high id = nat_le low id && nat_le id high

abbrev pub out_of_range : ℕ → ℕ → ℕ → Bool
out_of_range low high id = not (in_range low high id)

-- the loans that are handed over, or those that stay
abbrev pub loans_of : Bool → ℕ → ℕ → ℕ → Bool
loans_of true low high = in_range low high
loans_of false low high = out_of_range low high

-- the earlier of two months, of which the second need not be there
abbrev pub earlier : ℕ → Option ℕ → Option ℕ
earlier month None = Some month
earlier month (Some other) = Some (min month other)

-- the least boarded month of a set's loans, after one more command
abbrev pub with_board : (ℕ → Bool) → Option ℕ → Command → Option ℕ
with_board set least (command.Board id t) = if set id then earlier (month_of t.boarded) least else least
with_board set least c = least

-- the least month in which a loan of the set was boarded
abbrev pub least_month : (ℕ → Bool) → List Accepted → Option ℕ
least_month set h = fold (λ least (a : Accepted). with_board set least a.command) None h

-- a month is at or after that one; none is where no loan of the set was boarded
abbrev pub is_since : Option ℕ → ℕ → Bool
is_since None month = false
is_since (Some least) month = nat_le least month

-- the months of a part: its closings and remittances are those of these months
abbrev pub months_for : (ℕ → Bool) → List Accepted → ℕ → Bool
months_for set h = is_since (least_month set h)

-- a command on all loans: a month that is closed or remitted is one of some months
abbrev pub is_of_months : (ℕ → Bool) → Command → Bool
is_of_months months (command.Close p) = months p
is_of_months months (command.Remit p) = months p
is_of_months months c = true

abbrev pub is_within : (ℕ → Bool) → (ℕ → Bool) → Command → Scope → Bool
is_within set months c (One id) = set id
is_within set months c (New id t) = set id
is_within set months c Every = is_of_months months c

-- a part keeps business days, closings and remittances of its months, and the commands on its loans
abbrev pub is_for : (ℕ → Bool) → (ℕ → Bool) → Command → Bool
is_for set months c = is_within set months c (scope_of c)

abbrev pub is_part : (ℕ → Bool) → (ℕ → Bool) → Accepted → Bool
is_part set months a = is_for set months a.command

-- the number that a command has in the part: how many of the first so many commands the part keeps
abbrev pub place_in : (ℕ → Bool) → List Accepted → ℕ → ℕ
place_in set h number = length (filter (is_part set (months_for set h)) (take number h))

-- a reversal names its entry by the new number
abbrev pub renumbered : (ℕ → ℕ) → Command → Command
renumbered place (command.Reverse id number) = command.Reverse id (place number)
renumbered place c = c

abbrev pub moved_to : (ℕ → ℕ) → Accepted → Accepted
moved_to place a = accepted a.key (renumbered place a.command)

-- the part of a history: keys and order stay
abbrev pub part_of : (ℕ → Bool) → List Accepted → List Accepted
part_of set h = map (moved_to (place_in set h)) (filter (is_part set (months_for set h)) h)
