-- The spelling of numbers, amounts, days and months: each value has one text.
use Rattle.std.specs.Prelude.{◌≡◌, ◌≢◌, ℕ, ◌+◌, ◌/◌, ◌%◌, ◌^◌, ◌<◌, ◌≤◌, ◌⊎◌, List, [], ◌∷◌, ◌++◌, ℤ, pos, negsuc, ◌≤ℤ◌, ◌<ℤ◌, unsigned_abs}
use Rattle.std.specs.Fmt.{decimal}
use Rattle.svc_base.specs.Calendar.{year_of_month, number_in_year, month_of, day_in_month, IsDay}
use Rattle.svc_base.specs.declared.day_fault.DayFault.{DayFault}
use Rattle.svc_base.specs.declared.day_fault.DayFault.TheVariants.{NotADate, YearOutside}

-- a number from 0 to 99 in two digits
abbrev pub two_digits : ℕ → List ℕ
two_digits n = (48 + n / 10) ∷ (48 + n % 10) ∷ []

-- a number from 0 to 9999 in four digits
abbrev pub four_digits : ℕ → List ℕ
four_digits n = two_digits (n / 100) ++ two_digits (n % 100)

-- a number: decimal digits without a leading zero, as 0, 7, 360
abbrev pub text_of_number : ℕ → List ℕ
text_of_number n = decimal n

-- cents: whole units, a point and two digits, as 0.05, 1199.10
unfoldable pub text_of_cents : ℕ → List ℕ
text_of_cents n = text_of_number (n / 100) ++ (46 ∷ two_digits (n % 100))

-- an amount, which is not below zero
abbrev pub text_of_amount : ℤ → List ℕ
text_of_amount z = text_of_cents (unsigned_abs z)

-- an amount, with a minus before it where it is below zero
unfoldable pub text_of_signed : ℤ → List ℕ
text_of_signed (pos n) = text_of_cents n
text_of_signed (negsuc n) = 45 ∷ text_of_cents (n + 1)

-- a month: YYYY-MM
unfoldable pub text_of_month : ℕ → List ℕ
text_of_month m = four_digits (year_of_month m) ++ (45 ∷ two_digits (number_in_year m))

-- a day: YYYY-MM-DD
unfoldable pub text_of_day : ℕ → List ℕ
text_of_day d = text_of_month (month_of d) ++ (45 ∷ two_digits (day_in_month d))

-- an amount that requests may name: at most eleven digits before its point
pub record IsReadAmount (z : ℤ) : Type 0 where
  pub low : pos 0 ≤ℤ z
  pub high : z <ℤ pos (10 ^ 13)

-- a month that requests may name: of the years 1990 to 2099
pub record IsReadMonth (m : ℕ) : Type 0 where
  pub first : 1990 ≤ year_of_month m
  pub last : year_of_month m ≤ 2099

-- a month of a year that four digits spell
abbrev pub IsCivilMonth : ℕ → Type 0
IsCivilMonth m = year_of_month m ≤ 9999

-- a day of the calendar, of a year that four digits spell
pub record IsCivilDay (d : ℕ) : Type 0 where
  pub exists : IsDay d
  pub year : year_of_month (month_of d) ≤ 9999

-- a year that requests may not name
abbrev pub IsOtherYear : ℕ → Type 0
IsOtherYear y = (y < 1990) ⊎ (2099 < y)

-- the text spells a month of a year that requests may not name
pub record IsOtherMonth (text : List ℕ) : Type 0 where
  pub month : ℕ
  pub civil : IsCivilMonth month
  pub outside : IsOtherYear (year_of_month month)
  pub spelled : text ≡ text_of_month month

-- the text spells a day of a year that requests may not name
pub record IsOtherDay (text : List ℕ) : Type 0 where
  pub day : ℕ
  pub civil : IsCivilDay day
  pub outside : IsOtherYear (year_of_month (month_of day))
  pub spelled : text ≡ text_of_day day

-- why a text is no month that requests may name
abbrev pub IsMonthFault : List ℕ → DayFault → Type 0
IsMonthFault text NotADate = (m : ℕ) → IsCivilMonth m → text ≢ text_of_month m
IsMonthFault text YearOutside = IsOtherMonth text

-- why a text is no day that requests may name
abbrev pub IsDayFault : List ℕ → DayFault → Type 0
IsDayFault text NotADate = (d : ℕ) → IsCivilDay d → text ≢ text_of_day d
IsDayFault text YearOutside = IsOtherDay text
