-- Where a CSV row that asks nothing goes wrong: in its first column that does not fit.
use Rattle.std.specs.Prelude.{◌≡◌, ℕ, zero, suc, ◌⊎◌, ⊤, Bool, true, false, List, [], ◌∷◌}
use Rattle.svc_types.specs.Keys.{IsKey}
use Rattle.svc_forms.specs.declared.field.FieldKind.TheVariants as kind
use Rattle.svc_forms.specs.declared.form.Form.{Form}
use Rattle.svc_forms.specs.declared.form.Form.TheVariants as form
use Rattle.svc_forms.specs.Values.{Spells}
use Rattle.svc_forms.specs.Forms.{word_of}
use Rattle.serv_rows.specs.Columns.{IsBadColumn}

-- the forms of commands that rows ask
abbrev pub has_rows : Form → Bool
has_rows form.Pay = true
has_rows form.Curtail = true
has_rows form.Payoff = true
has_rows form.Deposit = true
has_rows form.Disburse = true
has_rows other = false

-- what the last field of a form's rows may be
abbrev pub FitsLine : Form → List ℕ → Type 0
FitsLine form.Pay line = (line ≡ []) ⊎ Spells kind.Designation line
FitsLine form.Disburse line = Spells kind.Number line
FitsLine other line = line ≡ []

-- a word of a command that rows ask
pub record NamesForm (word : List ℕ) : Type 0 where
  pub form : Form
  pub rows : has_rows form ≡ true
  pub named : word ≡ word_of form

-- a last field that fits its row's word
pub record FitsWord (word line : List ℕ) : Type 0 where
  pub form : Form
  pub named : word ≡ word_of form
  pub fits : FitsLine form line

-- the field in a place of six fits; places are counted from 0
abbrev pub Fits : List (List ℕ) → ℕ → Type 0
Fits (key ∷ rest) zero = IsKey key
Fits (key ∷ word ∷ rest) (suc zero) = NamesForm word
Fits (key ∷ word ∷ loan ∷ rest) (suc (suc zero)) = Spells kind.Number loan
Fits (key ∷ word ∷ loan ∷ day ∷ rest) (suc (suc (suc zero))) = Spells kind.Day day
Fits (key ∷ word ∷ loan ∷ day ∷ amount ∷ rest) (suc (suc (suc (suc zero)))) =
    Spells kind.Amount amount
Fits (key ∷ word ∷ loan ∷ day ∷ amount ∷ line ∷ rest) (suc (suc (suc (suc (suc zero))))) =
    FitsWord word line
Fits row place = ⊤

-- the column in which a row goes wrong, counted from 1; 7 where it has not six fields
abbrev pub IsBadAt : List (List ℕ) → ℕ → Type 0
IsBadAt row column = IsBadColumn 6 Fits row column
