-- What a bank's list says: its items and lines, or the first row and column that do not fit.
use Rattle.std.specs.Prelude.{◌≡◌, ℕ, ◌+◌, Bool, true, false, List, ◌∷◌, ◌++◌, length, map, ⊤, Result, Ok, Err}
use Rattle.std.specs.List.{AllZip, filter}
use Rattle.serv_rows.specs.Files.{records_of, BeginsWith}
use Rattle.bank_recon.specs.declared.item.BankItem.{BankItem}
use Rattle.bank_recon.specs.declared.line.LineKind.{LineKind}
use Rattle.bank_recon.specs.declared.line.LineKind.TheVariants.{Open, Bank}
use Rattle.bank_recon.specs.declared.line.Line.{Line}
use Rattle.bank_recon.specs.declared.fault.ReconFault.{ReconFault}
use Rattle.bank_recon.specs.declared.fault.ReconFault.TheVariants.{Bad, OutOfMemory}
use Rattle.bank_recon.specs.declared.statement.Statement.{Statement}
use Rattle.bank_recon.specs.Rows.{header, IsLine, IsBadAt}

abbrev pub is_kind : LineKind → LineKind → Bool
is_kind Open Open = true
is_kind Bank Bank = true
is_kind a b = false

-- the items of the lines of a kind, in their order
abbrev pub items_of_kind : LineKind → List Line → List BankItem
items_of_kind kind lines = map (λ (l : Line). l.item) (filter (λ (l : Line). is_kind kind l.kind) lines)

-- a file begins with the header
abbrev pub HasHeader : List ℕ → Type 0
HasHeader bytes = BeginsWith header bytes

-- a list says that these items were open, and that these lines are the bank's: each row after the header has a
-- line
pub record IsStatement (bytes : List ℕ) (carried bank : List BankItem) : Type 0 where
  pub rows : List (List (List ℕ))
  pub lines : List Line
  pub begins : records_of bytes ≡ header ∷ rows
  pub each : AllZip IsLine rows lines
  pub carried_are : carried ≡ items_of_kind Open lines
  pub bank_are : bank ≡ items_of_kind Bank lines

-- a row does not fit, and is the first: row 1 without the header, else one behind rows that have lines
pub data IsBadRow (bytes : List ℕ) : ℕ → ℕ → Type 0 where
  headless : (HasHeader bytes → ⊥) → IsBadRow bytes 1 1
  misfit : (before after : List (List (List ℕ))) (lines : List Line) (row : List (List ℕ)) (column : ℕ)
      → records_of bytes ≡ header ∷ (before ++ row ∷ after)
      → AllZip IsLine before lines → IsBadAt row column
      → IsBadRow bytes (length before + 2) column

-- what is read of a list: open items and lines of the bank, or the row and the column that do not fit
pub data Reading : Type 0 where
  Lists : List BankItem → List BankItem → Reading
  BadRow : ℕ → ℕ → Reading

abbrev pub IsReading : List ℕ → Reading → Type 0
IsReading bytes (Lists carried bank) = IsStatement bytes carried bank
IsReading bytes (BadRow row column) = IsBadRow bytes row column

-- a reading is what is answered; want of memory is free
abbrev pub IsAnswered : Result Statement ReconFault → Reading → Type 0
IsAnswered (Ok s) r = r ≡ Lists s.carried.items s.bank.items
IsAnswered (Err (Bad row column)) r = r ≡ BadRow row column
IsAnswered (Err OutOfMemory) r = ⊤

-- a fault is of the row and the column that do not fit
abbrev pub IsFault : List ℕ → ReconFault → Type 0
IsFault bytes (Bad row column) = IsReading bytes (BadRow row column)
IsFault bytes OutOfMemory = ⊤
