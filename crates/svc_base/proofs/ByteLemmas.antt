-- What holds of each digit and of the marks between them holds of each byte of a spelling. No digit is above `most`: 9 where
-- the number fits its places.
use Rattle.std.proofs.Common.{ℕ, ◌+◌, ◌/◌, ◌%◌, ◌^◌, ◌<◌, ◌≤◌, List, [], ◌∷◌, ◌++◌, arith, ℤ, pos, negsuc, ◌<ℤ◌}
use Rattle.std.specs.Prelude.{neg_ℤ}
use Rattle.std.specs.List.{All}
use Rattle.std.proofs.lemmas.Fmt.{decimal_by_steps}
use Rattle.std.proofs.lemmas.Int.{ints}
use Rattle.std.proofs.lemmas.List.Elements.{All-cons, All-nil, All-append}
use Rattle.svc_base.specs.Text.{two_digits, four_digits, text_of_number, text_of_signed, text_of_cents, text_of_month, text_of_day}

abbrev pub OfDigits : (ℕ → Type 0) → ℕ → Type 0
OfDigits P most = (d : ℕ) → d ≤ most → P (48 + d)

one : (P : ℕ → Type 0) (b : ℕ) → P b → All P (b ∷ [])
one P b h = All-cons P b [] h (All-nil P)

pub each_of_pair : (P : ℕ → Type 0) (most n : ℕ) → OfDigits P most → 9 ≤ most → n / 10 ≤ most → All P (two_digits n)
each_of_pair P most n digits wide h = All-cons P (48 + n / 10) ((48 + n % 10) ∷ []) (digits (n / 10) h) (one P (48 + n % 10) (digits (n % 10) (omega arith)))

pub each_of_number : (P : ℕ → Type 0) (n : ℕ) → OfDigits P 9 → n < 2 ^ 64 → All P (text_of_number n)
each_of_number P n digits h =
    let Q : ℕ → List ℕ → Type 0 = λ _ ds. All P ds in
    decimal_by_steps Q
    (λ m small. one P (48 + m) (digits m (omega arith)))
    (λ m ds large all. All-append P ds ((48 + m % 10) ∷ []) all (one P (48 + m % 10) (digits (m % 10) (omega arith))))
    n h

-- a front, a mark and two digits
marked : (P : ℕ → Type 0) (most : ℕ) (front : List ℕ) (mark n : ℕ) → OfDigits P most → 9 ≤ most → n < 100 → All P front → P mark → All P (front ++ (mark ∷ two_digits n))
marked P most front mark n digits wide h all m =
    All-append P front (mark ∷ two_digits n) all (All-cons P mark (two_digits n) m (each_of_pair P most n digits wide (omega arith)))

pub each_of_cents : (P : ℕ → Type 0) (n : ℕ) → OfDigits P 9 → P 46 → n < 10 ^ 20 → All P (text_of_cents n)
unfolding text_of_cents
each_of_cents P n digits point h =
    marked P 9 (text_of_number (n / 100)) 46 (n % 100) digits (omega arith) (omega arith) (each_of_number P (n / 100) digits (omega arith)) point

pub each_of_signed : (P : ℕ → Type 0) (z : ℤ) → OfDigits P 9 → P 46 → P 45 → neg_ℤ (pos (10 ^ 20)) <ℤ z → z <ℤ pos (10 ^ 20) → All P (text_of_signed z)
unfolding text_of_signed
each_of_signed P (pos n) digits point minus low high = each_of_cents P n digits point (grind (arith, ints))
each_of_signed P (negsuc n) digits point minus low high =
    All-cons P 45 (text_of_cents (n + 1)) minus (each_of_cents P (n + 1) digits point (grind (arith, ints)))

pub each_of_month : (P : ℕ → Type 0) (most m : ℕ) → OfDigits P most → P 45 → 9 ≤ most → m / 12 / 1000 ≤ most → All P (text_of_month m)
unfolding text_of_month
each_of_month P most m digits dash wide h =
    marked P most (four_digits (m / 12)) 45 (m % 12 + 1) digits wide (omega arith)
    (All-append P (two_digits (m / 12 / 100)) (two_digits (m / 12 % 100))
    (each_of_pair P most (m / 12 / 100) digits wide (omega arith)) (each_of_pair P most (m / 12 % 100) digits wide (omega arith)))
    dash

pub each_of_day : (P : ℕ → Type 0) (most d : ℕ) → OfDigits P most → P 45 → 9 ≤ most → d / 31 / 12 / 1000 ≤ most → All P (text_of_day d)
unfolding text_of_day
each_of_day P most d digits dash wide h =
    marked P most (text_of_month (d / 31)) 45 (d % 31 + 1) digits wide (omega arith) (each_of_month P most (d / 31) digits dash wide h) dash
