-- A field says the value whose text it is.
use Rattle.std.proofs.Common.{◌≡◌, ◌≢◌, ℕ, ℤ, ◌*◌, ◌/◌, ◌^◌, ◌≤◌, ◌<◌, Bool, true, false, List, Option, Some, None, IfSome, IfNone, refl, sym, ap, ◌∙◌, arith}
use Rattle.std.specs.Prelude.{nat_le, ◌&&◌, pos, negsuc, ◌≤ℤ◌, ◌<ℤ◌}
use Rattle.std.specs.Option.{option_map}
use Rattle.std.specs.Str.{bytes_eq}
use Rattle.std.proofs.lemmas.Bool.{false≢true}
use Rattle.std.proofs.lemmas.Bool.Decides.{nat_tests}
use Rattle.std.proofs.lemmas.Int.{ints}
use Rattle.std.proofs.lemmas.Slice.Eq.{bytes_eq-Decides}
use Rattle.svc_base.specs.Calendar.{month_of, day_in_month, month_length, year_of_month, IsReadDay}
use Rattle.svc_base.specs.Text.{text_of_number, text_of_amount, text_of_cents, text_of_day, IsReadAmount, IsCivilDay}
use Rattle.svc_base.proofs.TextLemmas.{number_injective, cents_injective, day_injective}
use Rattle.svc_types.specs.Requests.{IsReadNumber}
use Rattle.pmi_track.specs.Rows.{first_below, number_in, value_in, is_read_day, day_in}
use Rattle.pmi_track.proofs.RangeLemmas.{find_first, find_none}

pub both_true : (a b : Bool) → (a && b) ≡ true → (a ≡ true) × (b ≡ true)
both_true true b e = (refl, e)
both_true false b e = absurd (false≢true e)

pub from_both : (a b : Bool) → a ≡ true → b ≡ true → (a && b) ≡ true
from_both a b p q = ap (λ x. x && b) p ∙ q

not_true : (b : Bool) → (b ≡ true → ⊥) → b ≡ false
not_true true h = absurd (h refl)
not_true false h = refl

-- the number whose text it is is found, where no other has that text
found : (keep : ℕ → Bool) (spell : ℕ → List ℕ) (limit n : ℕ) (text : List ℕ) → n < limit → keep n ≡ true → text ≡ spell n
    → ((y : ℕ) → y < limit → keep y ≡ true → spell y ≡ spell n → y ≡ n) → first_below limit (λ m. keep m && bytes_eq text (spell m)) ≡ Some n
unfolding first_below
found keep spell limit n text lt kept is one =
    find_first (λ m. keep m && bytes_eq text (spell m)) 0 limit n (omega arith) (omega arith)
    (from_both (keep n) (bytes_eq text (spell n)) kept ((bytes_eq-Decides text (spell n)).1 is))
    (λ y low below. not_true (keep y && bytes_eq text (spell y)) (λ e. let h = both_true (keep y) (bytes_eq text (spell y)) e in
    let same : y ≡ n = one y (omega arith) h.0 (sym ((bytes_eq-Decides text (spell y)).0 h.1) ∙ is) in omega arith))

-- none is found where it is the text of none
missing : (keep : ℕ → Bool) (spell : ℕ → List ℕ) (limit : ℕ) (text : List ℕ) → ((y : ℕ) → y < limit → keep y ≡ true → text ≢ spell y)
    → first_below limit (λ m. keep m && bytes_eq text (spell m)) ≡ None
unfolding first_below
missing keep spell limit text none =
    find_none (λ m. keep m && bytes_eq text (spell m)) 0 limit
    (λ y low below. not_true (keep y && bytes_eq text (spell y)) (λ e. let h = both_true (keep y) (bytes_eq text (spell y)) e in
    none y (omega arith) h.0 ((bytes_eq-Decides text (spell y)).0 h.1)))

-- ---- numbers

pub number_read : (r : Option ℕ) (text : List ℕ) → IfSome r (λ n. text ≡ text_of_number n) → IfSome r IsReadNumber
    → IfNone r ((n : ℕ) → n < 2 ^ 32 → text ≢ text_of_number n) → r ≡ number_in text
number_read (Some n) text is range none =
    sym (found (λ m. true) text_of_number (2 ^ 32) n text range refl is (λ y lt k e. number_injective y n (omega arith) (omega arith) e))
number_read None text is range none = sym (missing (λ m. true) text_of_number (2 ^ 32) text (λ y lt k. none y lt))

-- ---- amounts above 0

amount_below : (n : ℕ) → IsReadAmount (pos n) → n < 10 ^ 13
amount_below n h = let high : pos n <ℤ pos (10 ^ 13) = h.high in grind (arith, ints)

read_amount : (n : ℕ) → n < 10 ^ 13 → IsReadAmount (pos n)
read_amount n h = record { low = grind (arith, ints); high = grind (arith, ints) }

pub value_read : (z : ℤ) (text : List ℕ) → text ≡ text_of_amount z → IsReadAmount z → pos 0 <ℤ z → Some z ≡ value_in text
value_read (pos n) text is range some =
    let lt = amount_below n range in
    let low : 1 ≤ n = grind (arith, ints) in
    sym (ap (option_map pos) (found (nat_le 1) text_of_cents (10 ^ 13) n text lt (grind (arith, nat_tests)) is (λ y l k e. cents_injective y n (omega arith) (omega arith) e)))
value_read (negsuc n) text is range some = absurd (let h : pos 0 ≤ℤ negsuc n = range.low in grind (arith, ints))

pub value_zero : (z : ℤ) (text : List ℕ) → text ≡ text_of_amount z → IsReadAmount z → z ≤ℤ pos 0 → None ≡ value_in text
value_zero (pos n) text is range small =
    let zero : n ≡ 0 = grind (arith, ints) in
    sym (ap (option_map pos) (missing (nat_le 1) text_of_cents (10 ^ 13) text (λ y lt k e. let low : 1 ≤ y = grind (arith, nat_tests) in
    let same : y ≡ n = cents_injective y n (omega arith) (omega arith) (sym e ∙ is) in omega arith)))
value_zero (negsuc n) text is range small = absurd (let h : pos 0 ≤ℤ negsuc n = range.low in grind (arith, ints))

pub value_missing : (text : List ℕ) → ((z : ℤ) → IsReadAmount z → text ≢ text_of_amount z) → None ≡ value_in text
value_missing text none = sym (ap (option_map pos) (missing (nat_le 1) text_of_cents (10 ^ 13) text (λ y lt k e. none (pos y) (read_amount y lt) e)))

-- ---- days

day_kept : (d : ℕ) → IsReadDay d → is_read_day d ≡ true
day_kept d h =
    let exists = h.exists in
    let first = h.first in
    let last = h.last in
    let one : nat_le (day_in_month d) (month_length (month_of d)) ≡ true = grind (arith, nat_tests) in
    let two : nat_le 1990 (year_of_month (month_of d)) ≡ true = grind (arith, nat_tests) in
    let three : nat_le (year_of_month (month_of d)) 2099 ≡ true = grind (arith, nat_tests) in
    from_both (nat_le (day_in_month d) (month_length (month_of d))) (nat_le 1990 (year_of_month (month_of d)) && nat_le (year_of_month (month_of d)) 2099) one
    (from_both (nat_le 1990 (year_of_month (month_of d))) (nat_le (year_of_month (month_of d)) 2099) two three)

pub kept_day : (d : ℕ) → is_read_day d ≡ true → IsReadDay d
kept_day d e =
    let a = both_true (nat_le (day_in_month d) (month_length (month_of d))) (nat_le 1990 (year_of_month (month_of d)) && nat_le (year_of_month (month_of d)) 2099) e in
    let b = both_true (nat_le 1990 (year_of_month (month_of d))) (nat_le (year_of_month (month_of d)) 2099) a.1 in
    let one = a.0 in
    let two = b.0 in
    let three = b.1 in
    record { exists = grind (arith, nat_tests); first = grind (arith, nat_tests); last = grind (arith, nat_tests) }

civil : (d : ℕ) → IsReadDay d → IsCivilDay d
civil d h = let last = h.last in record { exists = h.exists; year = omega arith }

day_below : (d : ℕ) → IsReadDay d → d < 31 * (12 * 2100)
day_below d h = let last : d / 31 / 12 ≤ 2099 = h.last in omega arith

pub day_read : (r : Option ℕ) (text : List ℕ) → IfSome r (λ d. text ≡ text_of_day d) → IfSome r IsReadDay
    → IfNone r ((d : ℕ) → IsReadDay d → text ≢ text_of_day d) → r ≡ day_in text
day_read (Some d) text is range none =
    sym (found is_read_day text_of_day (31 * (12 * 2100)) d text (day_below d range) (day_kept d range) is (λ y lt k e. day_injective y d (civil y (kept_day y k)) (civil d range) e))
day_read None text is range none = sym (missing is_read_day text_of_day (31 * (12 * 2100)) text (λ y lt k. none y (kept_day y k)))
