-- The fields of requests: their names, and what each one's text spells.
use Rattle.std.specs.Prelude.{ℕ, Bool, true, false, List, codes}
use Rattle.svc_forms.specs.declared.field.Field.{Field}
use Rattle.svc_forms.specs.declared.field.Field.TheVariants as field
use Rattle.svc_forms.specs.declared.field.FieldKind.{FieldKind}
use Rattle.svc_forms.specs.declared.field.FieldKind.TheVariants as kind

-- a field's name
abbrev pub name_of : Field → List ℕ
name_of field.Loan = codes "loan"
name_of field.Day = codes "day"
name_of field.Principal = codes "principal"
name_of field.Rate = codes "rate"
name_of field.Fee = codes "fee"
name_of field.Pi = codes "pi"
name_of field.Term = codes "term"
name_of field.First = codes "first"
name_of field.Grace = codes "grace"
name_of field.Late = codes "late"
name_of field.Cushion = codes "cushion"
name_of field.Escrow = codes "escrow"
name_of field.Type = codes "type"
name_of field.Amount = codes "amount"
name_of field.Line = codes "line"
name_of field.Number = codes "number"
name_of field.Kind = codes "kind"
name_of field.Month = codes "month"
name_of field.Every = codes "every"
name_of field.Surplus = codes "surplus"
name_of field.Short = codes "short"
name_of field.Deficient = codes "deficient"
name_of field.Period = codes "period"
name_of field.Designation = codes "designation"
name_of field.Key = codes "key"

-- what a field's text spells
abbrev pub kind_of_field : Field → FieldKind
kind_of_field field.Loan = kind.Number
kind_of_field field.Day = kind.Day
kind_of_field field.Principal = kind.Amount
kind_of_field field.Rate = kind.Number
kind_of_field field.Fee = kind.Number
kind_of_field field.Pi = kind.Amount
kind_of_field field.Term = kind.Number
kind_of_field field.First = kind.Month
kind_of_field field.Grace = kind.Number
kind_of_field field.Late = kind.Number
kind_of_field field.Cushion = kind.Number
kind_of_field field.Escrow = kind.Amount
kind_of_field field.Type = kind.Type
kind_of_field field.Amount = kind.Amount
kind_of_field field.Line = kind.Number
kind_of_field field.Number = kind.Number
kind_of_field field.Kind = kind.Kind
kind_of_field field.Month = kind.Number
kind_of_field field.Every = kind.Number
kind_of_field field.Surplus = kind.Surplus
kind_of_field field.Short = kind.Part
kind_of_field field.Deficient = kind.Part
kind_of_field field.Period = kind.Month
kind_of_field field.Designation = kind.Designation
kind_of_field field.Key = kind.Key

-- whether a request may leave a field out
abbrev pub is_optional : Field → Bool
is_optional field.Designation = true
is_optional other = false
