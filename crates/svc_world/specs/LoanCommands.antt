-- What the commands of a history say of one loan: a plain list, in the order in which they were accepted, of what each
-- command on the loan says. From it follow the loan's entries, reversals, escrow lines and changes of type.
use Rattle.std.specs.Prelude.{◌≡◌, ℕ, ◌+◌, ◌*◌, ◌==◌, if◌then◌else◌, List, [], ◌∷◌, ◌++◌, length, Option, Some, None}
use Rattle.std.specs.List.{find, flat_map}
use Rattle.std.specs.Option.{option_map_or}
use Rattle.svc_base.specs.Calendar.{first_day}
use Rattle.svc_types.specs.declared.account.Act.TheVariants as act
use Rattle.svc_types.specs.declared.account.Entry.{Entry}
use Rattle.svc_types.specs.declared.terms.Terms.{Terms}
use Rattle.svc_types.specs.declared.requests.Command.{Command}
use Rattle.svc_types.specs.declared.requests.Command.TheVariants as command
use Rattle.svc_types.specs.declared.requests.TypeChange.{TypeChange}
use Rattle.escrow_lines.specs.declared.line.Line.{Line}
use Rattle.escrow_lines.specs.BillLists.{has_id}
use Rattle.svc_world.specs.Held.{Held, find_loan}
use Rattle.svc_world.specs.LoanDues.{type_change}
use Rattle.svc_world.specs.Analysing.{settlement_of}
use Rattle.svc_world.specs.World.{Accepted, entry, world}

-- the last of some; where there is none, x
abbrev pub last_or : {X : Type 0} → X → List X → X
last_or x [] = x
last_or x (y ∷ ys) = last_or y ys

-- ---- the business day

abbrev pub day_named : Command → List ℕ
day_named (command.Day d) = d ∷ []
day_named c = []

-- the last business day that commands name; before the first it is 1990-01-01
abbrev pub business_day : List Accepted → ℕ
business_day h = last_or (first_day (12 * 1990)) (flat_map (λ (a : Accepted). day_named a.command) h)

-- ---- what a command says of its loan

-- it is boarded with these terms, it has an entry, an entry is reversed by a command, a line is set or dropped, its type
-- changes
pub data Saying : Type 0 where
  Boards : Terms → Saying
  Enters : Entry → Saying
  Reverses : ℕ → ℕ → Saying
  Sets : Line → Saying
  Drops : ℕ → Saying
  Retypes : TypeChange → Saying

-- of one loan only what commands on it say
abbrev pub own : ℕ → ℕ → Saying → List Saying
own loan id s = if loan == id then s ∷ [] else []

-- what a command says of the loan with that number, after the commands before it. Its entry has its number. A refund, a
-- waiver and an analysis are of the business day, and an analysis enters the settlement of the loan as it then is
abbrev pub said_by : ℕ → List Accepted → Command → List Saying
said_by id before (command.Day d) = []
said_by id before (command.Board loan t) = own loan id (Boards t)
said_by id before (command.Pay loan d c over) = own loan id (Enters (entry (length before + 1) d (act.Pay c over)))
said_by id before (command.Curtail loan d c) = own loan id (Enters (entry (length before + 1) d (act.Curtail c)))
said_by id before (command.Payoff loan d c) = own loan id (Enters (entry (length before + 1) d (act.Payoff c)))
said_by id before (command.Deposit loan d c) = own loan id (Enters (entry (length before + 1) d (act.Deposit c)))
said_by id before (command.Disburse loan d c line) =
    own loan id (Enters (entry (length before + 1) d (act.Disburse c line)))
said_by id before (command.Refund loan c) =
    own loan id (Enters (entry (length before + 1) (business_day before) (act.Refund c)))
said_by id before (command.Waive loan c) =
    own loan id (Enters (entry (length before + 1) (business_day before) (act.Waive c)))
said_by id before (command.Reverse loan number) = own loan id (Reverses number (length before + 1))
said_by id before (command.Line loan line kind month every c) =
    own loan id (Sets (record { id = line; kind = kind; month = month; every = every; cents = c }))
said_by id before (command.Drop loan line) = own loan id (Drops line)
said_by id before (command.Analyse loan plan) =
    option_map_or (λ (l : Held). own loan id
    (Enters (entry (length before + 1) (business_day before) (act.Analyse (settlement_of l plan)))))
    (find_loan loan (world before).loans) []
said_by id before (command.Close p) = []
said_by id before (command.Remit p) = []
said_by id before (command.Retype loan from kind) = own loan id (Retypes (type_change from kind))

-- what commands say of a loan, one after another, after those before them
abbrev pub said_from : ℕ → List Accepted → List Accepted → List Saying
said_from id before [] = []
said_from id before (a ∷ more) = said_by id before a.command ++ said_from id (before ++ a ∷ []) more

abbrev pub said_of : ℕ → List Accepted → List Saying
said_of id h = said_from id [] h

-- ---- what a loan is by what is said of it

abbrev pub terms_said : Saying → List Terms
terms_said (Boards t) = t ∷ []
terms_said s = []

abbrev pub entry_said : Saying → List Entry
entry_said (Enters e) = e ∷ []
entry_said s = []

-- the number of the entry, and that of the command
abbrev pub reversal_said : Saying → List (ℕ × ℕ)
reversal_said (Reverses number by) = (number, by) ∷ []
reversal_said s = []

abbrev pub type_said : Saying → List TypeChange
type_said (Retypes c) = c ∷ []
type_said s = []

-- of the line with an id: it is this one from then on, or there is none
abbrev pub line_said : ℕ → Saying → List (Option Line)
line_said id (Sets line) = if line.id == id then Some line ∷ [] else []
line_said id (Drops dropped) = if dropped == id then None ∷ [] else []
line_said id s = []

-- a loan is what the commands on it say, in their order: boarded by one of them, with its terms, with their entries,
-- reversals and changes of type, and with each line as the last of them leaves it. Of a loan that is not there they say
-- nothing
pub record IsAsSaid (h : List Accepted) (id : ℕ) : Type 0 where
  pub terms : option_map_or (λ (l : Held). l.account.terms ∷ []) (find_loan id (world h).loans) []
      ≡ flat_map terms_said (said_of id h)
  pub entries : option_map_or (λ (l : Held). l.account.entries) (find_loan id (world h).loans) []
      ≡ flat_map entry_said (said_of id h)
  pub reversals : option_map_or (λ (l : Held). l.account.reversals) (find_loan id (world h).loans) []
      ≡ flat_map reversal_said (said_of id h)
  pub lines : (line : ℕ) → option_map_or (λ (l : Held). find (has_id line) l.lines) (find_loan id (world h).loans) None
      ≡ last_or None (flat_map (line_said line) (said_of id h))
  pub types : option_map_or (λ (l : Held). l.types) (find_loan id (world h).loans) []
      ≡ flat_map type_said (said_of id h)
