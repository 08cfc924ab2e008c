-- Files of insured loans: which rows they have, and what each one says.
use Rattle.std.specs.Prelude.{ℕ, suc, ◌^◌, ◌*◌, nat_le, Bool, false, ◌&&◌, if◌then◌else◌, List, [], ◌∷◌, Option, Some, None, Result, Ok, Err, ℤ, pos, ◌<ℤ◌, codes, IfSome}
use Rattle.std.specs.List.{find, range_with_len}
use Rattle.std.specs.Option.{option_map}
use Rattle.std.specs.Str.{bytes_eq}
use Rattle.svc_base.specs.Calendar.{IsReadDay, month_of, day_in_month, month_length, year_of_month}
use Rattle.svc_base.specs.Text.{text_of_number, text_of_cents, text_of_day}
use Rattle.serv_rows.specs.Files.{records_of}
use Rattle.pmi_track.specs.declared.insured_loan.InsuredLoan.{InsuredLoan}
use Rattle.pmi_track.specs.declared.insured_loan.InsuredRow.{InsuredRow}
use Rattle.pmi_track.specs.declared.insured_loan.InsuredRow.TheVariants.{Row, Bad}

-- ---- the values of fields

-- the first number below n that passes a test
unfoldable pub first_below : ℕ → (ℕ → Bool) → Option ℕ
first_below n passes = find passes (range_with_len 0 n)

-- the number whose text it is
abbrev pub number_in : List ℕ → Option ℕ
number_in text = first_below (2 ^ 32) (λ n. bytes_eq text (text_of_number n))

-- the amount above 0 whose text it is
abbrev pub value_in : List ℕ → Option ℤ
value_in text = option_map pos (first_below (10 ^ 13) (λ n. nat_le 1 n && bytes_eq text (text_of_cents n)))

-- a day of the years 1990 to 2099
abbrev pub is_read_day : ℕ → Bool
is_read_day d =
    nat_le (day_in_month d) (month_length (month_of d))
    && (nat_le 1990 (year_of_month (month_of d)) && nat_le (year_of_month (month_of d)) 2099)

-- the day of these years whose text it is
abbrev pub day_in : List ℕ → Option ℕ
day_in text = first_below (31 * (12 * 2100)) (λ d. is_read_day d && bytes_eq text (text_of_day d))

-- a day, or no day where the field is empty
abbrev pub asked_in : List ℕ → Option (Option ℕ)
asked_in [] = Some None
asked_in text = option_map Some (day_in text)

-- ---- rows

-- the loan of four fields, or the first column that does not fit, counted from 1
abbrev pub insured_by : Option ℕ → Option ℤ → Option ℕ → Option (Option ℕ) → Result InsuredLoan ℕ
insured_by None value line asked = Err 1
insured_by (Some loan) None line asked = Err 2
insured_by (Some loan) (Some value) None asked = Err 3
insured_by (Some loan) (Some value) (Some line) None = Err 4
insured_by (Some loan) (Some value) (Some line) (Some asked) =
    Ok (record { loan = loan; value = value; line = line; asked = asked })

-- the loan of a row, or the column in which it goes wrong: 5 where it has not four fields
abbrev pub insured_of : List (List ℕ) → Result InsuredLoan ℕ
insured_of (loan ∷ value ∷ line ∷ asked ∷ []) =
    insured_by (number_in loan) (value_in value) (number_in line) (asked_in asked)
insured_of fields = Err 5

-- what the row with a number says
abbrev pub row_by : ℕ → Result InsuredLoan ℕ → InsuredRow
row_by number (Ok insured) = Row insured
row_by number (Err column) = Bad number column

abbrev pub row_of : ℕ → List (List ℕ) → InsuredRow
row_of number fields = row_by number (insured_of fields)

-- what rows say, the first of them with that number
abbrev pub rows_from : ℕ → List (List (List ℕ)) → List InsuredRow
rows_from number [] = []
rows_from number (fields ∷ more) = row_of number fields ∷ rows_from (suc number) more

-- ---- files

-- the first row of a file names the columns
abbrev pub header : List (List ℕ)
header = codes "loan" ∷ codes "value" ∷ codes "line" ∷ codes "asked" ∷ []

abbrev pub is_header : List (List ℕ) → Bool
is_header (loan ∷ value ∷ line ∷ asked ∷ []) =
    bytes_eq loan (codes "loan")
    && (bytes_eq value (codes "value") && (bytes_eq line (codes "line") && bytes_eq asked (codes "asked")))
is_header fields = false

abbrev pub rows_after : List (List (List ℕ)) → Option (List InsuredRow)
rows_after [] = None
rows_after (first ∷ rows) = if is_header first then Some (rows_from 2 rows) else None

-- what the rows of a file say, as `csv` reads it: the header is row 1. None where it is not there
unfoldable pub insured_in : List ℕ → Option (List InsuredRow)
insured_in bytes = rows_after (records_of bytes)

-- ---- what rows that were read say

-- the value of a loan is above 0, and its day one that requests may name
pub record IsInsured (i : InsuredLoan) : Type 0 where
  pub value : pos 0 <ℤ i.value
  pub asked : IfSome i.asked IsReadDay

abbrev pub IsRead : InsuredRow → Type 0
IsRead (Row insured) = IsInsured insured
IsRead (Bad number column) = Unit {0}
