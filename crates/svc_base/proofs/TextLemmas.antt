-- Spellings: what they look like, and that no two values share one.
use Rattle.std.proofs.Common.{◌≡◌, ◌≢◌, ℕ, ◌+◌, ◌^◌, ◌<◌, ◌≤◌, List, ◌∷◌, ◌++◌, length, get_or, arith, sym, subst, ap, ◌∙◌, refl, Option, Some, None, zero, suc, lit<, ◌⊎◌, inl, inr, SomeIff, IfSome, IfNone, IsTrue, true, false, take, drop, length-append, ℤ, pos, negsuc, ◌≤ℤ◌, ◌<ℤ◌, ◌-◌, ◌/◌, ◌%◌, ◌*◌}
use Rattle.std.proofs.lemmas.Fmt.{decimal_is_IsNumeral, first_decimal, decimal-digits_value, decimal_injective, decimal_digit}
use Rattle.std.proofs.lemmas.Int.{ints}
use Rattle.std.proofs.lemmas.Str.Parse.{numerals_by_value, tells_digits, digit_at}
use Rattle.std.specs.Str.Parse.{IsNumeral, digits_value, AllDigits}
use Rattle.std.specs.Fmt.{decimal}
use Rattle.std.proofs.Math.Seq.{take-append_seam, drop-append_seam}
use Rattle.svc_base.specs.Text.{text_of_number, two_digits, four_digits, text_of_cents, text_of_amount, text_of_month, text_of_day, IsReadAmount, IsReadMonth, IsCivilMonth, IsCivilDay, IsOtherYear}
use Rattle.svc_base.specs.Calendar.{month_length, IsReadDay}
use Rattle.svc_base.specs.DayLemmas.{month_length_most}

-- what digits write, where no zero leads
pub numeral_spelled : (ds : List ℕ) → IsNumeral 10 ds → (get_or ds 0 0 ≡ 48 → length ds ≡ 1) → digits_value 10 ds < 2 ^ 64 → ds ≡ decimal (digits_value 10 ds)
numeral_spelled ds h lead small = sym (decimal-digits_value (numerals_by_value (AllDigits 10) tells_digits) ds h.1 h.0 lead small)

-- a spelled number is digits that write it
spelled_numeral : (n : ℕ) (ds : List ℕ) → n < 2 ^ 64 → ds ≡ decimal n → IsNumeral 10 ds × (digits_value 10 ds ≡ n)
spelled_numeral n ds h e = subst (λ (t : List ℕ). IsNumeral 10 t × (digits_value 10 t ≡ n)) (sym e) (decimal_is_IsNumeral n h)

-- a spelled number has no sign
pub decimal_first : (n : ℕ) (ds : List ℕ) → n < 2 ^ 64 → ds ≡ decimal n → get_or ds 0 0 ≢ 43
decimal_first n ds h e sign =
    let d = digit_at ds 0 (spelled_numeral n ds h e).0.1 (spelled_numeral n ds h e).0.0 in
    omega arith

-- and no leading zero
pub decimal_lead : (n : ℕ) (ds : List ℕ) → n < 2 ^ 64 → ds ≡ decimal n → get_or ds 0 0 ≡ 48 → length ds ≡ 1
decimal_lead zero ds h e z = ap length (e ∙ decimal_digit 0 (lit< tt))
decimal_lead (suc n) ds h e z = absurd (let p : 48 < get_or (decimal (suc n)) 0 0 = first_decimal (suc n) (omega arith) h in let q : get_or (decimal (suc n)) 0 0 ≡ 48 = ap (λ t. get_or t 0 0) (sym e) ∙ z in omega arith)

-- a text that a number spells begins as one
pub not_plain : (ds : List ℕ) → (get_or ds 0 0 ≡ 43) ⊎ ((get_or ds 0 0 ≡ 48) × (1 < length ds)) → (n : ℕ) → n < 2 ^ 64 → ds ≢ decimal n
not_plain ds (inl sign) n h e = decimal_first n ds h e sign
not_plain ds (inr two) n h e = let one : length ds ≡ 1 = decimal_lead n ds h e two.0 in let more = two.1 in omega arith

-- what `parse` reads of a text that begins as a number
pub parsed_read : (r : Option ℕ) (ds : List ℕ) → (get_or ds 0 0 ≡ 48 → length ds ≡ 1) → SomeIff r (IsNumeral 10 ds × (digits_value 10 ds < 2 ^ 64)) (digits_value 10 ds) → IfSome r (λ n. ds ≡ decimal n)
parsed_read None ds lead h = tt
parsed_read (Some x) ds lead h = numeral_spelled ds h.0.0 lead h.0.1 ∙ ap decimal (sym h.1)

pub parsed_none : (r : Option ℕ) (ds : List ℕ) → SomeIff r (IsNumeral 10 ds × (digits_value 10 ds < 2 ^ 64)) (digits_value 10 ds) → IfNone r ((n : ℕ) → n < 2 ^ 64 → ds ≢ decimal n)
parsed_none None ds h = λ n small e. h ((spelled_numeral n ds small e).0, (let v = (spelled_numeral n ds small e).1 in omega arith))
parsed_none (Some x) ds h = tt

pub ruleset reading = (not_plain, parsed_read, parsed_none)

-- where two texts end in as many bytes, their fronts and their ends are the same
pub same_ends : (v w xs ys : List ℕ) → length xs ≡ length ys → v ++ xs ≡ w ++ ys → (v ≡ w) × (xs ≡ ys)
same_ends v w xs ys n e =
    let l : length v ≡ length w = omega (arith, length-append v xs, length-append w ys, ap length e) in
    let front : take (length v) (v ++ xs) ≡ take (length w) (w ++ ys) = cc in
    let back : drop (length v) (v ++ xs) ≡ drop (length w) (w ++ ys) = cc in
    (sym (take-append_seam v xs) ∙ front ∙ take-append_seam w ys, sym (drop-append_seam v xs) ∙ back ∙ drop-append_seam w ys)

-- a fact that holds in any case
pub on_none : {T P : Type 0} (r : Option T) → P → IfNone r P
on_none None h = h
on_none (Some x) h = tt

-- two digits are those of one number
pub pair_injective : (m n : ℕ) → m < 100 → n < 100 → two_digits m ≡ two_digits n → m ≡ n
pair_injective m n p q e =
    let tens : 48 + m / 10 ≡ 48 + n / 10 = cc in
    let ones : 48 + m % 10 ≡ 48 + n % 10 = cc in
    omega arith

-- a front, a mark and two digits tell the front and the number
pub front_and_pair : (v w : List ℕ) (mark m n : ℕ) → m < 100 → n < 100 → v ++ (mark ∷ two_digits m) ≡ w ++ (mark ∷ two_digits n) → (v ≡ w) × (m ≡ n)
front_and_pair v w mark m n p q e =
    let ends = same_ends v w (mark ∷ two_digits m) (mark ∷ two_digits n) refl e in
    (ends.0, pair_injective m n p q (ap (drop 1) ends.1))

-- cents are their units, a point and two digits
pub cents_joined : (whole : List ℕ) (u c n : ℕ) → whole ≡ decimal u → c < 100 → n ≡ 100 * u + c → whole ++ (46 ∷ two_digits c) ≡ text_of_cents n
unfolding text_of_cents
cents_joined whole u c n p small e =
    let units : n / 100 ≡ u = omega arith in
    let cents : n % 100 ≡ c = omega arith in
    cc

pub no_point : (text : List ℕ) (limit : ℕ) → ((whole : List ℕ) (n : ℕ) → n < 100 → text ≢ whole ++ (46 ∷ two_digits n)) → (n : ℕ) → n < 100 * limit → text ≢ text_of_cents n
unfolding text_of_cents
no_point text limit h n below e = h (decimal (n / 100)) (n % 100) (omega arith) e

pub no_units : (text whole : List ℕ) (c limit : ℕ) → c < 100 → text ≡ whole ++ (46 ∷ two_digits c) → limit < 2 ^ 64 → ((m : ℕ) → m < 2 ^ 64 → whole ≢ decimal m) → (n : ℕ) → n < 100 * limit → text ≢ text_of_cents n
unfolding text_of_cents
no_units text whole c limit small p fits h n below e = h (n / 100) (omega arith) (front_and_pair whole (decimal (n / 100)) 46 c (n % 100) small (omega arith) (sym p ∙ e)).0

pub large_units : (text whole : List ℕ) (c u limit : ℕ) → c < 100 → text ≡ whole ++ (46 ∷ two_digits c) → whole ≡ decimal u → u < 2 ^ 64 → limit ≤ u → (n : ℕ) → n < 100 * limit → text ≢ text_of_cents n
unfolding text_of_cents
large_units text whole c u limit small p q wide large n below e =
    let same : whole ≡ decimal (n / 100) = (front_and_pair whole (decimal (n / 100)) 46 c (n % 100) small (omega arith) (sym p ∙ e)).0 in
    let equal : u ≡ n / 100 = decimal_injective u (n / 100) wide (omega arith) (sym q ∙ same) in
    omega arith

-- months: a year of four digits, a dash and the number in the year
pub month_joined : (text whole : List ℕ) (y k : ℕ) → y < 10_000 → 1 ≤ k → k ≤ 12 → whole ≡ four_digits y → text ≡ whole ++ (45 ∷ two_digits k) → IsCivilMonth (12 * y + (k - 1)) × (text ≡ text_of_month (12 * y + (k - 1)))
unfolding text_of_month
month_joined text whole y k small low high p q =
    let year : (12 * y + (k - 1)) / 12 ≡ y = omega arith in
    let number : (12 * y + (k - 1)) % 12 + 1 ≡ k = omega arith in
    (omega arith, cc)

pub no_month_dash : (text : List ℕ) → ((whole : List ℕ) (n : ℕ) → n < 100 → text ≢ whole ++ (45 ∷ two_digits n)) → (m : ℕ) → IsCivilMonth m → text ≢ text_of_month m
unfolding text_of_month
no_month_dash text h m civil e = h (four_digits (m / 12)) (m % 12 + 1) (omega arith) e

month_parts : (text whole : List ℕ) (k m : ℕ) → k < 100 → text ≡ whole ++ (45 ∷ two_digits k) → text ≡ text_of_month m → (whole ≡ four_digits (m / 12)) × (k ≡ m % 12 + 1)
unfolding text_of_month
month_parts text whole k m small p e = front_and_pair whole (four_digits (m / 12)) 45 k (m % 12 + 1) small (omega arith) (sym p ∙ e)

pub no_year : (text whole : List ℕ) (k : ℕ) → k < 100 → text ≡ whole ++ (45 ∷ two_digits k) → ((y : ℕ) → y < 10_000 → whole ≢ four_digits y) → (m : ℕ) → IsCivilMonth m → text ≢ text_of_month m
no_year text whole k small p h m civil e = h (m / 12) (omega arith) (month_parts text whole k m small p e).0

pub no_number : (text whole : List ℕ) (k : ℕ) → k < 100 → text ≡ whole ++ (45 ∷ two_digits k) → (k < 1) ⊎ ((1 ≤ k) × (12 < k)) → (m : ℕ) → IsCivilMonth m → text ≢ text_of_month m
no_number text whole k small p (inl low) m civil e = let is = (month_parts text whole k m small p e).1 in omega arith
no_number text whole k small p (inr high) m civil e = let is = (month_parts text whole k m small p e).1 in omega arith

-- days: a month, a dash and the place in the month
pub day_joined : (text whole : List ℕ) (m k : ℕ) → IsCivilMonth m → 1 ≤ k → k ≤ month_length m → whole ≡ text_of_month m → text ≡ whole ++ (45 ∷ two_digits k) → IsCivilDay (31 * m + (k - 1)) × (text ≡ text_of_day (31 * m + (k - 1)))
unfolding text_of_day
day_joined text whole m k civil low high p q =
    let most : month_length m ≤ 31 = month_length_most m in
    let month : (31 * m + (k - 1)) / 31 ≡ m = omega arith in
    let place : (31 * m + (k - 1)) % 31 + 1 ≡ k = omega arith in
    let long : month_length ((31 * m + (k - 1)) / 31) ≡ month_length m = ap month_length month in
    (record { exists = omega arith; year = omega arith }, cc)

pub no_day_dash : (text : List ℕ) → ((whole : List ℕ) (n : ℕ) → n < 100 → text ≢ whole ++ (45 ∷ two_digits n)) → (d : ℕ) → IsCivilDay d → text ≢ text_of_day d
unfolding text_of_day
no_day_dash text h d civil e = h (text_of_month (d / 31)) (d % 31 + 1) (omega arith) e

day_parts : (text whole : List ℕ) (k d : ℕ) → k < 100 → text ≡ whole ++ (45 ∷ two_digits k) → text ≡ text_of_day d → (whole ≡ text_of_month (d / 31)) × (k ≡ d % 31 + 1)
unfolding text_of_day
day_parts text whole k d small p e = front_and_pair whole (text_of_month (d / 31)) 45 k (d % 31 + 1) small (omega arith) (sym p ∙ e)

pub no_month : (text whole : List ℕ) (k : ℕ) → k < 100 → text ≡ whole ++ (45 ∷ two_digits k) → ((m : ℕ) → IsCivilMonth m → whole ≢ text_of_month m) → (d : ℕ) → IsCivilDay d → text ≢ text_of_day d
no_month text whole k small p h d civil e = h (d / 31) civil.year (day_parts text whole k d small p e).0

-- years, months and days of four digits have one text each
pub year_injective : (y z : ℕ) → y < 10_000 → z < 10_000 → four_digits y ≡ four_digits z → y ≡ z
year_injective y z p q e =
    let a : 48 + y / 100 / 10 ≡ 48 + z / 100 / 10 = cc in
    let b : 48 + y / 100 % 10 ≡ 48 + z / 100 % 10 = cc in
    let c : 48 + y % 100 / 10 ≡ 48 + z % 100 / 10 = cc in
    let d : 48 + y % 100 % 10 ≡ 48 + z % 100 % 10 = cc in
    omega arith

pub month_injective : (m n : ℕ) → IsCivilMonth m → IsCivilMonth n → text_of_month m ≡ text_of_month n → m ≡ n
unfolding text_of_month
month_injective m n p q e =
    let parts = month_parts (text_of_month m) (four_digits (m / 12)) (m % 12 + 1) n (omega arith) refl e in
    let year : m / 12 ≡ n / 12 = year_injective (m / 12) (n / 12) (omega arith) (omega arith) parts.0 in
    let number : m % 12 + 1 ≡ n % 12 + 1 = parts.1 in
    omega arith

pub day_injective : (c d : ℕ) → IsCivilDay c → IsCivilDay d → text_of_day c ≡ text_of_day d → c ≡ d
unfolding text_of_day
day_injective c d p q e =
    let parts = day_parts (text_of_day c) (text_of_month (c / 31)) (c % 31 + 1) d (omega arith) refl e in
    let month : c / 31 ≡ d / 31 = month_injective (c / 31) (d / 31) p.year q.year parts.0 in
    let place : c % 31 + 1 ≡ d % 31 + 1 = parts.1 in
    omega arith

pub no_such_day : (text whole : List ℕ) (m k : ℕ) → IsCivilMonth m → k < 100 → text ≡ whole ++ (45 ∷ two_digits k) → whole ≡ text_of_month m → ((1 ≤ k) × (k ≤ month_length m) → IsTrue false) → (d : ℕ) → IsCivilDay d → text ≢ text_of_day d
no_such_day text whole m k civil small p q h d is e =
    let parts = day_parts text whole k d small p e in
    let month : m ≡ d / 31 = month_injective m (d / 31) civil is.year (sym q ∙ parts.0) in
    let place : k ≡ d % 31 + 1 = parts.1 in
    let long : month_length m ≡ month_length (d / 31) = ap month_length month in
    let exists : d % 31 + 1 ≤ month_length (d / 31) = is.exists in
    let absent : false ≡ true = h (omega arith, omega arith) in
    cc

pub cents_injective : (m n : ℕ) → m < 100 * 2 ^ 64 → n < 100 * 2 ^ 64 → text_of_cents m ≡ text_of_cents n → m ≡ n
unfolding text_of_cents
cents_injective m n p q e =
    let parts = front_and_pair (decimal (m / 100)) (decimal (n / 100)) 46 (m % 100) (n % 100) (omega arith) (omega arith) e in
    let units : m / 100 ≡ n / 100 = decimal_injective (m / 100) (n / 100) (omega arith) (omega arith) parts.0 in
    let cents : m % 100 ≡ n % 100 = parts.1 in
    omega arith

-- a year that is not read is another one
other_year : (y : ℕ) → IsTrue false ⊎ IsOtherYear y → 1990 ≤ y → y ≤ 2099 → ⊥
other_year y (inl never) low high = cc
other_year y (inr (inl below)) low high = omega arith
other_year y (inr (inr above)) low high = omega arith

-- a month or a day of another year is none that requests may name
pub other_month : (text : List ℕ) (m : ℕ) → IsCivilMonth m → text ≡ text_of_month m → IsTrue false ⊎ IsOtherYear (m / 12) → (n : ℕ) → IsReadMonth n → text ≢ text_of_month n
other_month text m civil p outside n read e =
    let same : m ≡ n = month_injective m n civil (omega arith) (sym p ∙ e) in
    other_year (m / 12) outside (omega arith) (omega arith)

pub other_day : (text : List ℕ) (c : ℕ) → IsCivilDay c → text ≡ text_of_day c → IsTrue false ⊎ IsOtherYear (c / 31 / 12) → (d : ℕ) → IsReadDay d → text ≢ text_of_day d
other_day text c civil p outside d read e =
    let is : IsCivilDay d = record { exists = read.exists; year = omega arith } in
    let same : c ≡ d = day_injective c d civil is (sym p ∙ e) in
    other_year (c / 31 / 12) outside (omega arith) (omega arith)

-- numbers and amounts have one text each
pub number_injective : (m n : ℕ) → m < 2 ^ 64 → n < 2 ^ 64 → text_of_number m ≡ text_of_number n → m ≡ n
number_injective m n p q e = decimal_injective m n p q e

pub amount_injective : (y z : ℤ) → IsReadAmount y → IsReadAmount z → text_of_amount y ≡ text_of_amount z → y ≡ z
amount_injective (pos m) (pos n) p q e =
    let low : m < 100 * 2 ^ 64 = (let h : pos m <ℤ pos (10 ^ 13) = p.high in omega (arith, ints)) in
    let high : n < 100 * 2 ^ 64 = (let h : pos n <ℤ pos (10 ^ 13) = q.high in omega (arith, ints)) in
    ap pos (cents_injective m n low high e)
amount_injective (pos m) (negsuc n) p q e = absurd (let h : pos 0 ≤ℤ negsuc n = q.low in grind (arith, ints))
amount_injective (negsuc m) z p q e = absurd (let h : pos 0 ≤ℤ negsuc m = p.low in grind (arith, ints))
