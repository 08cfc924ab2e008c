-- Fields that spell a number, a day or an amount.
use Rattle.std.proofs.Common.{◌≡◌, ℕ, ℤ, List, Option, Some, None, IfSome, refl}
use Rattle.svc_base.specs.Calendar.{IsReadDay}
use Rattle.svc_base.specs.Text.{text_of_number, text_of_amount, text_of_day, IsReadAmount}
use Rattle.svc_types.specs.Requests.{IsReadNumber}
use Rattle.svc_forms.specs.Values.{Spells}
use Rattle.svc_forms.specs.declared.field.FieldKind.TheVariants as kind
use Rattle.svc_forms.specs.declared.value.Value.TheVariants as value

pub number_fits : (r : Option ℕ) (text : List ℕ) → IfSome r (λ n. text ≡ text_of_number n) → IfSome r IsReadNumber → IfSome r (λ n. Spells kind.Number text)
number_fits None text read range = tt
number_fits (Some n) text read range = record { spelled = value.Number n; fits = record { kind = refl; range = range }; is = read }

pub day_fits : (r : Option ℕ) (text : List ℕ) → IfSome r (λ d. text ≡ text_of_day d) → IfSome r IsReadDay → IfSome r (λ d. Spells kind.Day text)
day_fits None text read range = tt
day_fits (Some d) text read range = record { spelled = value.Day d; fits = record { kind = refl; range = range }; is = read }

pub amount_fits : (r : Option ℤ) (text : List ℕ) → IfSome r (λ z. text ≡ text_of_amount z) → IfSome r IsReadAmount → IfSome r (λ z. Spells kind.Amount text)
amount_fits None text read range = tt
amount_fits (Some z) text read range = record { spelled = value.Amount z; fits = record { kind = refl; range = range }; is = read }
