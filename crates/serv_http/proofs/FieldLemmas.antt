-- The lines of a head, one after another, and the digits of a length.
use Rattle.std.proofs.Common.{◌≡◌, ℕ, ◌+◌, ◌-◌, ◌*◌, ◌^◌, ◌<◌, ◌≤◌, Bool, true, ltb, leb, List, [], ◌∷◌, ◌++◌, length, map, take, get_or, sym, ap, ◌∙◌, arith, add-one}
use Rattle.std.specs.List.{list_any, list_all}
use Rattle.std.specs.Char.{is_ascii_digit, digit_value}
use Rattle.std.specs.Str.Parse.{digits_value}
use Rattle.std.proofs.lemmas.Bool.{and_parts, and_from, leb-true, le-ltb, lt-ltb, cond-true, cond-false}
use Rattle.std.proofs.lemmas.List.{get_or-map, length-map}
use Rattle.std.proofs.lemmas.List.Folds.{list_any_at, list_all_more}
use Rattle.std.proofs.lemmas.Int.Digits.{digits_value_more}
use Rattle.std.proofs.Math.Nat.{pow-succ'}
use Rattle.httparse.specs.declared.spans.HeaderSpan.{HeaderSpan}
use Rattle.httparse.specs.Spans.{header_bytes}
use Rattle.serv_http.specs.Fields.{Line}

pub line-found : (test : Line → Bool) (buf : List ℕ) (lines : List HeaderSpan) (i : ℕ) (d : HeaderSpan) → i < length lines
    → test (header_bytes buf (get_or lines i d)) ≡ true → list_any test (map (header_bytes buf) lines) ≡ true
line-found test buf lines i d inside e =
    list_any_at test (map (header_bytes buf) lines) i (header_bytes buf d) (omega (arith, length-map lines (header_bytes buf)))
    (ap test (get_or-map (header_bytes buf) lines i d (header_bytes buf d) inside) ∙ e)

-- a digit, and the number that it is
digit-is : (b : ℕ) → is_ascii_digit b ≡ true → (48 ≤ b) × (b ≤ 57) × (digit_value b ≡ b - 48)
digit-is b e =
    let p = and_parts (leb 48 b) (leb b 57) e in
    let low = leb-true 48 b p.0 in
    let high = leb-true b 57 p.1 in
    (low, high, cond-false (ltb b 48) 36 _ (le-ltb b 48 low) ∙ cond-true (ltb b 58) (b - 48) _ (lt-ltb b 58 (omega arith)))

power-more : (i : ℕ) → 10 ^ (i + 1) ≡ 10 * 10 ^ i
power-more i = ap (λ (n : ℕ). 10 ^ n) (add-one i) ∙ pow-succ' 10 i

pub record IsNumber (digits : List ℕ) (i number : ℕ) : Type 0 where
  pub digits_so_far : list_all is_ascii_digit (take i digits) ≡ true
  pub value : number ≡ digits_value 10 (take i digits)
  pub small : number < 10 ^ i

pub number-more : (digits : List ℕ) (i number digit : ℕ) → i < length digits → IsNumber digits i number
    → is_ascii_digit (get_or digits i 0) ≡ true → digit ≡ get_or digits i 0 - 48
    → IsNumber digits (i + 1) (number * 10 + digit)
number-more digits i number digit inside x e is =
    let d = digit-is (get_or digits i 0) e in
    record {
      digits_so_far = list_all_more is_ascii_digit digits i 0 inside
          ∙ and_from (list_all is_ascii_digit (take i digits)) (is_ascii_digit (get_or digits i 0)) x.digits_so_far e;
      value = ap (λ (n : ℕ). n * 10 + digit) x.value
          ∙ ap (λ (n : ℕ). digits_value 10 (take i digits) * 10 + n) (is ∙ sym d.2)
          ∙ sym (digits_value_more 10 digits i inside);
      small = omega (arith, power-more i, x.small, d.0, d.1, is);
    }
