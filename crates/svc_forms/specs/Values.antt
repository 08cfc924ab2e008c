-- The values of fields: what kind each is of, its text, and which values requests may name.
use Rattle.std.specs.Prelude.{◌≡◌, ℕ, List, Option, Some, None, slice_get, IsTrue}
use Rattle.svc_base.specs.Calendar.{IsReadDay}
use Rattle.svc_base.specs.Text.{text_of_number, text_of_amount, text_of_day, text_of_month, IsReadAmount, IsReadMonth}
use Rattle.svc_types.specs.Keys.{IsKey}
use Rattle.svc_types.specs.Requests.{IsReadNumber}
use Rattle.svc_types.specs.Words.{text_of_type, text_of_kind, text_of_surplus, text_of_part, text_of_designation, IsReadPart, IsNamed}
use Rattle.svc_types.specs.declared.account.Designation.{Designation}
use Rattle.svc_types.specs.declared.account.Designation.TheVariants as over
use Rattle.svc_forms.specs.declared.field.Field.{Field}
use Rattle.svc_forms.specs.declared.field.FieldKind.{FieldKind}
use Rattle.svc_forms.specs.declared.field.FieldKind.TheVariants as kind
use Rattle.svc_forms.specs.declared.value.Value.{Value}
use Rattle.svc_forms.specs.declared.value.Value.TheVariants as value
use Rattle.svc_forms.specs.Fields.{kind_of_field, is_optional}

-- the kind of a value
abbrev pub kind_of : Value → FieldKind
kind_of (value.Number n) = kind.Number
kind_of (value.Amount z) = kind.Amount
kind_of (value.Day d) = kind.Day
kind_of (value.Month m) = kind.Month
kind_of (value.Type t) = kind.Type
kind_of (value.Kind k) = kind.Kind
kind_of (value.Surplus s) = kind.Surplus
kind_of (value.Part p) = kind.Part
kind_of (value.Designation over) = kind.Designation
kind_of (value.Key key) = kind.Key

-- the text of a value; a key is its own
abbrev pub text_of_value : Value → List ℕ
text_of_value (value.Number n) = text_of_number n
text_of_value (value.Amount z) = text_of_amount z
text_of_value (value.Day d) = text_of_day d
text_of_value (value.Month m) = text_of_month m
text_of_value (value.Type t) = text_of_type t
text_of_value (value.Kind k) = text_of_kind k
text_of_value (value.Surplus s) = text_of_surplus s
text_of_value (value.Part p) = text_of_part p
text_of_value (value.Designation over) = text_of_designation over
text_of_value (value.Key key) = key

-- a value that requests may name
abbrev pub IsReadValue : Value → Type 0
IsReadValue (value.Number n) = IsReadNumber n
IsReadValue (value.Amount z) = IsReadAmount z
IsReadValue (value.Day d) = IsReadDay d
IsReadValue (value.Month m) = IsReadMonth m
IsReadValue (value.Type t) = Unit {0}
IsReadValue (value.Kind k) = Unit {0}
IsReadValue (value.Surplus s) = Unit {0}
IsReadValue (value.Part p) = IsReadPart p
IsReadValue (value.Designation over) = IsNamed over
IsReadValue (value.Key key) = IsKey key

-- a value of a kind, that requests may name
pub record IsValueOf (asked : FieldKind) (v : Value) : Type 0 where
  pub kind : kind_of v ≡ asked
  pub range : IsReadValue v

-- a text that spells a value of a kind
pub record Spells (asked : FieldKind) (text : List ℕ) : Type 0 where
  pub spelled : Value
  pub fits : IsValueOf asked spelled
  pub is : text ≡ text_of_value spelled

-- a value fits the field in its place; a field that may be left out may have none
abbrev pub FitsField : Option Field → Option Value → Type 0
FitsField None None = Unit {0}
FitsField None (Some v) = ⊥
FitsField (Some f) None = IsTrue (is_optional f)
FitsField (Some f) (Some v) = IsValueOf (kind_of_field f) v

-- values of these fields, in their order
pub record AreValuesOf (fields : List Field) (values : List Value) : Type 0 where
  pub each : (i : ℕ) → FitsField (slice_get fields i) (slice_get values i)

-- a value of a kind stands in a place
pub record StandsAt (asked : FieldKind) (values : List Value) (i : ℕ) : Type 0 where
  pub value : Value
  pub there : slice_get values i ≡ Some value
  pub fits : IsValueOf asked value

-- what the last value of a payment says of what is over, where it is there
abbrev pub IsOver : Option Value → Designation → Type 0
IsOver None over.Regular = Unit {0}
IsOver None over.Principal = ⊥
IsOver None over.Escrow = ⊥
IsOver (Some v) d = (v ≡ value.Designation d) × IsNamed d
