-- The CSV rows of commands: the fields of each command's row.
use Rattle.std.specs.Prelude.{◌≡◌, ℕ, ℤ, List, [], ◌∷◌, Option, Some, None, codes}
use Rattle.svc_base.specs.Text.{text_of_number, text_of_amount, text_of_day}
use Rattle.svc_types.specs.Keys.{IsKey}
use Rattle.svc_types.specs.Requests.{IsCommand}
use Rattle.svc_types.specs.Words.{text_of_designation}
use Rattle.svc_types.specs.declared.requests.Command.{Command}
use Rattle.svc_types.specs.declared.requests.Command.TheVariants as command
use Rattle.svc_forms.specs.declared.form.Form.{Form}
use Rattle.svc_forms.specs.declared.form.Form.TheVariants as form
use Rattle.svc_forms.specs.Forms.{word_of}

-- the first row of a file names the columns
abbrev pub header : List (List ℕ)
header = codes "key" ∷ codes "do" ∷ codes "loan" ∷ codes "day" ∷ codes "amount" ∷ codes "line" ∷ []

-- the six fields of a row
abbrev pub row_with : List ℕ → Form → ℕ → ℕ → ℤ → List ℕ → List (List ℕ)
row_with key form loan day amount line =
    key ∷ word_of form ∷ text_of_number loan ∷ text_of_day day ∷ text_of_amount amount ∷ line ∷ []

-- the row of a command: its last field is a payment's designation, empty for a regular payment, the line of a
-- disbursement, and else empty; no row asks another command
abbrev pub row_of : List ℕ → Command → Option (List (List ℕ))
row_of key (command.Pay loan day amount over) =
    Some (row_with key form.Pay loan day amount (text_of_designation over))
row_of key (command.Curtail loan day amount) = Some (row_with key form.Curtail loan day amount [])
row_of key (command.Payoff loan day amount) = Some (row_with key form.Payoff loan day amount [])
row_of key (command.Deposit loan day amount) = Some (row_with key form.Deposit loan day amount [])
row_of key (command.Disburse loan day amount line) =
    Some (row_with key form.Disburse loan day amount (text_of_number line))
row_of key other = None

-- a row asks a command under a key
pub record Asks (row : List (List ℕ)) (key : List ℕ) (c : Command) : Type 0 where
  pub names : IsKey key
  pub well : IsCommand c
  pub fields : row_of key c ≡ Some row
