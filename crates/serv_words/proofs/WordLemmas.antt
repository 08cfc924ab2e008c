-- A month in the words of the command line.
use Rattle.std.proofs.Common.{◌≡◌, ◌≢◌, ℕ, Bool, true, false, List, refl, sym, ap, subst, ◌∙◌, arith}
use Rattle.std.specs.Prelude.{Some, None, nat_le, ◌&&◌, ◌<◌, ◌≤◌, ◌^◌, if◌then◌else◌}
use Rattle.std.specs.Str.{bytes_eq}
use Rattle.std.specs.Str.Parse.{digits_value}
use Rattle.std.proofs.lemmas.Fmt.{decimal_is_IsNumeral}
use Rattle.std.proofs.lemmas.Bool.{le-leb, leb-true}
use Rattle.std.proofs.lemmas.Slice.Eq.{bytes_eq-Decides}
use Rattle.svc_base.specs.Calendar.{year_of_month}
use Rattle.svc_base.specs.Text.{text_of_month, text_of_number, IsReadMonth}
use Rattle.serv_words.specs.Words.{month_in, month_by_digits, is_read_month, number_in}

-- the digits of a month are those of its text
month_of_its_text : (m : ℕ) → IsReadMonth m → month_by_digits (text_of_month m) ≡ m
unfolding text_of_month
month_of_its_text m is = omega (arith, is.first, is.last)

both : (a b : Bool) → a ≡ true → b ≡ true → (a && b) ≡ true
both true b p q = q
both false b p q = absurd (cc)

first_true : (a b : Bool) → (a && b) ≡ true → a ≡ true
first_true true b p = refl
first_true false b p = p

second_true : (a b : Bool) → (a && b) ≡ true → b ≡ true
second_true true b p = p
second_true false b p = absurd (cc)

-- a month's text passes the test, and no other text does
is_spelled : (text : List ℕ) (m : ℕ) → IsReadMonth m → text ≡ text_of_month m → (is_read_month m && bytes_eq text (text_of_month m)) ≡ true
is_spelled text m is e =
    both (is_read_month m) (bytes_eq text (text_of_month m))
    (both (nat_le 1990 (year_of_month m)) (nat_le (year_of_month m) 2099) (le-leb 1990 (year_of_month m) is.first) (le-leb (year_of_month m) 2099 is.last))
    ((bytes_eq-Decides text (text_of_month m)).1 e)

spells : (text : List ℕ) (m : ℕ) → (is_read_month m && bytes_eq text (text_of_month m)) ≡ true → IsReadMonth m × (text ≡ text_of_month m)
spells text m e =
    let within = first_true (is_read_month m) (bytes_eq text (text_of_month m)) e in (
      record {
        first = leb-true 1990 (year_of_month m) (first_true (nat_le 1990 (year_of_month m)) (nat_le (year_of_month m) 2099) within);
        last = leb-true (year_of_month m) 2099 (second_true (nat_le 1990 (year_of_month m)) (nat_le (year_of_month m) 2099) within);
      },
      (bytes_eq-Decides text (text_of_month m)).0 (second_true (is_read_month m) (bytes_eq text (text_of_month m)) e),
    )

pub month_read : (text : List ℕ) (m : ℕ) → IsReadMonth m → text ≡ text_of_month m → month_in text ≡ Some m
unfolding month_in
month_read text m is e =
    let k : month_by_digits text ≡ m = ap month_by_digits e ∙ month_of_its_text m is in
    let test : (is_read_month (month_by_digits text) && bytes_eq text (text_of_month (month_by_digits text))) ≡ true =
    subst (λ n. (is_read_month n && bytes_eq text (text_of_month n)) ≡ true) (sym k) (is_spelled text m is e) in
    ap (λ (t : Bool). if t then Some (month_by_digits text) else None) test ∙ ap Some k

pub month_none : (text : List ℕ) → ((m : ℕ) → IsReadMonth m → text ≢ text_of_month m) → month_in text ≡ None
unfolding month_in
month_none text none = by_test (is_read_month (month_by_digits text) && bytes_eq text (text_of_month (month_by_digits text))) (month_by_digits text)
    (λ e. let s = spells text (month_by_digits text) e in none (month_by_digits text) s.0 s.1)
  where
    by_test : (t : Bool) (m : ℕ) → (t ≡ true → ⊥) → (if t then Some m else None) ≡ None
    by_test true m no_way = absurd (no_way refl)
    by_test false m no_way = refl

pub month_spelled : (text : List ℕ) (m : ℕ) → month_in text ≡ Some m → IsReadMonth m × (text ≡ text_of_month m)
unfolding month_in
month_spelled text m e = by_test (is_read_month (month_by_digits text) && bytes_eq text (text_of_month (month_by_digits text))) (month_by_digits text) refl e
  where
    by_test : (t : Bool) (n : ℕ) → (is_read_month n && bytes_eq text (text_of_month n)) ≡ t → (if t then Some n else None) ≡ Some m → IsReadMonth m × (text ≡ text_of_month m)
    by_test true n test e' =
        let same : n ≡ m = cc in
        subst (λ k. IsReadMonth k × (text ≡ text_of_month k)) same (spells text n test)
    by_test false n test e' = absurd (cc)

-- ---- numbers

number_of_its_text : (text : List ℕ) (n : ℕ) → n < 2 ^ 32 → text ≡ text_of_number n → digits_value 10 text ≡ n
number_of_its_text text n small e = ap (digits_value 10) e ∙ (decimal_is_IsNumeral n (omega (arith, small))).1

pub number_read : (most : ℕ) (text : List ℕ) (n : ℕ) → n < 2 ^ 32 → n ≤ most → text ≡ text_of_number n → number_in most text ≡ Some n
unfolding number_in
number_read most text n small few e =
    let k : digits_value 10 text ≡ n = number_of_its_text text n small e in
    let test : (nat_le (digits_value 10 text) most && bytes_eq text (text_of_number (digits_value 10 text))) ≡ true =
    subst (λ m. (nat_le m most && bytes_eq text (text_of_number m)) ≡ true) (sym k)
    (both (nat_le n most) (bytes_eq text (text_of_number n)) (le-leb n most few) ((bytes_eq-Decides text (text_of_number n)).1 e)) in
    ap (λ (t : Bool). if t then Some (digits_value 10 text) else None) test ∙ ap Some k

pub number_none : (most : ℕ) (text : List ℕ) → most < 2 ^ 32 → ((n : ℕ) → n < 2 ^ 32 → text ≢ text_of_number n) → number_in most text ≡ None
unfolding number_in
number_none most text small none = by_test (nat_le (digits_value 10 text) most) (bytes_eq text (text_of_number (digits_value 10 text))) (digits_value 10 text)
    (λ few e. none (digits_value 10 text) (omega (arith, small, leb-true (digits_value 10 text) most few)) ((bytes_eq-Decides text (text_of_number (digits_value 10 text))).0 e))
  where
    by_test : (few same : Bool) (m : ℕ) → (few ≡ true → same ≡ true → ⊥) → (if few && same then Some m else None) ≡ None
    by_test true true m no_way = absurd (no_way refl refl)
    by_test true false m no_way = refl
    by_test false same m no_way = refl

pub number_beyond : (most : ℕ) (text : List ℕ) (n : ℕ) → n < 2 ^ 32 → most < n → text ≡ text_of_number n → number_in most text ≡ None
unfolding number_in
number_beyond most text n small large e =
    by_test (nat_le (digits_value 10 text) most) (bytes_eq text (text_of_number (digits_value 10 text))) (digits_value 10 text)
    (λ few. omega (arith, number_of_its_text text n small e, leb-true (digits_value 10 text) most few, large))
  where
    by_test : (few same : Bool) (m : ℕ) → (few ≡ true → ⊥) → (if few && same then Some m else None) ≡ None
    by_test true same m no_way = absurd (no_way refl)
    by_test false same m no_way = refl
