-- Decimal digits read one by one.
use Rattle.std.proofs.Common.{◌≡◌, ℕ, zero, suc, ◌+◌, ◌*◌, ◌<◌, List, [], ◌∷◌, length, get_or, take, arith, subst, sym, ap, ◌∙◌}
use Rattle.std.specs.Str.Parse.{AllDigits, digits_value}
use Rattle.std.specs.Char.{digit_value}
use Rattle.std.proofs.lemmas.Int.Digits.{digits_value_more}
use Rattle.std.proofs.lemmas.Str.Parse.{digits_value-take-le}

digits_next : (ds : List ℕ) (i : ℕ) → i < length ds → AllDigits 10 (take i ds) → digit_value (get_or ds i 0) < 10 → AllDigits 10 (take (suc i) ds)
digits_next [] i lt h digit = absurd (omega arith)
digits_next (d ∷ ds) zero lt h digit = (digit, tt)
digits_next (d ∷ ds) (suc i) lt h digit = (h.0, digits_next ds i (omega arith) h.1 digit)

-- one digit more
pub digits_more : (ds : List ℕ) (i : ℕ) → i < length ds → AllDigits 10 (take i ds) → digit_value (get_or ds i 0) < 10 → AllDigits 10 (take (i + 1) ds)
digits_more ds i lt h digit =
    let next : suc i ≡ i + 1 = omega arith in
    subst (λ n. AllDigits 10 (take n ds)) next (digits_next ds i lt h digit)

pub digit_here : (ds : List ℕ) (i : ℕ) → AllDigits 10 ds → i < length ds → digit_value (get_or ds i 0) < 10
digit_here [] i h lt = absurd (omega arith)
digit_here (d ∷ ds) zero h lt = h.0
digit_here (d ∷ ds) (suc i) h lt = digit_here ds i h.1 (omega arith)

-- the number that some digits write is at most that of all
pub value_within : (ds : List ℕ) (i n most : ℕ) → i < length ds → n ≡ digits_value 10 (take i ds) → digits_value 10 ds < most → n * 10 + digit_value (get_or ds i 0) < most
value_within ds i n most lt is small =
    let more = digits_value_more 10 ds i lt in
    let le = digits_value-take-le 10 ds (i + 1) (omega arith) in
    let same : n * 10 + digit_value (get_or ds i 0) ≡ digits_value 10 (take (i + 1) ds) = ap (λ m. m * 10 + digit_value (get_or ds i 0)) is ∙ sym more in
    omega (arith, le, same)
