-- Values of the fields of a loan's line, and the words that spell them.
use Rattle.std.specs.Prelude.{◌≡◌, ℕ, ℤ, pos, List, [], ◌∷◌, Option, None, IfSome, ⊤}
use Rattle.std.specs.Borrow.{Bor}
use Rattle.servicing_transfer.specs.declared.loan_fields.FieldKind.{FieldKind}
use Rattle.servicing_transfer.specs.declared.loan_fields.FieldKind.TheVariants as kind
use Rattle.servicing_transfer.specs.declared.loan_fields.Value.{Value}
use Rattle.servicing_transfer.specs.declared.loan_fields.Value.TheVariants as value
use Rattle.servicing_transfer.specs.LoanFields.{words_of_fields}
use Rattle.servicing_transfer.specs.Stated.{IsStatedNumber, IsStatedAmount, IsStatedBalance, IsStatedMonth}

-- a value of a kind, which can be stated
abbrev pub IsValueOf : FieldKind → Value → Type 0
IsValueOf kind.Number (value.Number n) = IsStatedNumber n
IsValueOf kind.Amount (value.Cents z) = IsStatedAmount z
IsValueOf kind.Balance (value.Cents z) = IsStatedBalance z
IsValueOf kind.Next (value.Next next) = IfSome next IsStatedMonth
IsValueOf k v = ⊥

-- a value for each field, of its kind
abbrev pub AreValuesOf : List (List ℕ × FieldKind) → List Value → Type 0
AreValuesOf [] [] = ⊤
AreValuesOf (f ∷ fs) (v ∷ vs) = IsValueOf f.1 v × AreValuesOf fs vs
AreValuesOf fs vs = ⊥

-- words spell values of fields
pub record Spell (fs : List (List ℕ × FieldKind)) (vs : List Value) (words : List (List ℕ)) : Type 0 where
  pub kinds : AreValuesOf fs vs
  pub are : words ≡ words_of_fields fs vs

-- a field as code has it
abbrev pub said : Bor (List ℕ) × FieldKind → List ℕ × FieldKind
said f = (f.0.now, f.1)

-- what a value is, where it is of a kind
abbrev pub number_in : Value → ℕ
number_in (value.Number n) = n
number_in v = 0

abbrev pub cents_in : Value → ℤ
cents_in (value.Cents z) = z
cents_in v = pos 0

abbrev pub month_in : Value → Option ℕ
month_in (value.Next next) = next
month_in v = None
