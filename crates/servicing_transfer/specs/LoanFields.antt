-- The fields of a loan's line: their names, and what their words spell.
use Rattle.std.specs.Prelude.{ℕ, List, [], ◌∷◌, codes, Option, Some, None}
use Rattle.svc_base.specs.Text.{text_of_number, text_of_signed, text_of_month}
use Rattle.servicing_transfer.specs.declared.statement_line.StatementLine.{StatementLine}
use Rattle.servicing_transfer.specs.declared.loan_fields.FieldKind.{FieldKind}
use Rattle.servicing_transfer.specs.declared.loan_fields.FieldKind.TheVariants as kind
use Rattle.servicing_transfer.specs.declared.loan_fields.Value.{Value}
use Rattle.servicing_transfer.specs.declared.loan_fields.Value.TheVariants as value

-- the fields, in their order: each one's name, and what its word spells
abbrev pub fields : List (List ℕ × FieldKind)
fields =
    (codes "loan", kind.Number) ∷ (codes "upb", kind.Amount) ∷ (codes "next", kind.Next)
    ∷ (codes "escrow", kind.Balance) ∷ (codes "suspense", kind.Amount) ∷ (codes "late", kind.Amount)
    ∷ (codes "escrow-advance", kind.Amount) ∷ (codes "held", kind.Amount) ∷ (codes "pi-advance", kind.Amount) ∷ []

-- what a line says in them
abbrev pub values_of : StatementLine → List Value
values_of s =
    value.Number s.loan ∷ value.Cents s.upb ∷ value.Next s.next ∷ value.Cents s.escrow ∷ value.Cents s.suspense
    ∷ value.Cents s.late ∷ value.Cents s.escrow_advance ∷ value.Cents s.held ∷ value.Cents s.pi_advance ∷ []

-- the month in which the open installment is due; a dash where the loan is satisfied
abbrev pub next_word : Option ℕ → List ℕ
next_word None = codes "-"
next_word (Some month) = text_of_month month

-- the text of a value; an amount that is not below zero has no sign
abbrev pub text_of_value : Value → List ℕ
text_of_value (value.Number n) = text_of_number n
text_of_value (value.Cents z) = text_of_signed z
text_of_value (value.Next next) = next_word next

-- the words of fields with values: each field's name, and the text of its value
abbrev pub words_of_fields : List (List ℕ × FieldKind) → List Value → List (List ℕ)
words_of_fields (f ∷ fs) (v ∷ vs) = f.0 ∷ text_of_value v ∷ words_of_fields fs vs
words_of_fields fs vs = []
