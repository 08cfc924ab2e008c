-- Spellings of amounts that may be below zero.
use Rattle.std.proofs.Common.{◌≡◌, ◌≢◌, ℕ, zero, suc, ◌+◌, ◌*◌, ◌/◌, ◌%◌, ◌^◌, ◌<◌, ◌≤◌, List, [], ◌∷◌, ◌++◌, ℤ, pos, negsuc, lit<, sym, ap, ◌∙◌, arith, to_z, of_z}
use Rattle.std.specs.Int.{w128}
use Rattle.std.specs.Fmt.{decimal}
use Rattle.std.specs.Prelude.{neg_ℤ, ◌-ℤ◌, ◌<ℤ◌, FitsSigned, get_or}
use Rattle.std.proofs.lemmas.Int.{ints, to_z_pos, to_z-of_z}
use Rattle.std.proofs.lemmas.Fmt.{decimal_digit, first_decimal}
use Rattle.svc_base.specs.Text.{text_of_signed, two_digits, text_of_cents}
use Rattle.svc_base.proofs.TextLemmas.{cents_injective}
use Rattle.serv_rows.specs.Amounts.{IsBelow}

-- ---- cents

pub zero_none : (limit : ℕ) (text : List ℕ) → limit < 2 ^ 64 → text ≡ text_of_cents 0 → (n : ℕ) → 0 < n → n < 100 * limit → text ≢ text_of_cents n
zero_none limit text fits p n some small e = let zero_is : 0 ≡ n = cents_injective 0 n (omega arith) (omega arith) (sym p ∙ e) in omega arith

-- ---- amounts

-- cents within a limit are kept as they are
as_signed : (limit n : ℕ) → limit < 2 ^ 64 → n < 100 * limit → to_z w128 n ≡ pos n
as_signed limit n fits h = to_z_pos w128 n (omega arith)

-- a spelled number begins with a digit
first_digit : (n : ℕ) → n < 2 ^ 64 → 48 ≤ get_or (decimal n) 0 0
first_digit zero h = let is : get_or (decimal 0) 0 0 ≡ 48 = ap (λ t. get_or t 0 0) (decimal_digit 0 (lit< tt)) in omega arith
first_digit (suc n) h = let p : 48 < get_or (decimal (suc n)) 0 0 = first_decimal (suc n) (omega arith) h in omega arith

first_of : (xs ys : List ℕ) → 48 ≤ get_or xs 0 0 → 48 ≤ get_or (xs ++ ys) 0 0
first_of [] ys h = absurd (omega arith)
first_of (x ∷ xs) ys h = h

-- the spelling of cents does not begin with a minus
no_minus : (limit n : ℕ) (rest : List ℕ) → limit < 2 ^ 64 → n < 100 * limit → text_of_cents n ≢ 45 ∷ rest
unfolding text_of_cents
no_minus limit n rest fits h e =
    let first = first_of (decimal (n / 100)) (46 ∷ two_digits (n % 100)) (first_digit (n / 100) (omega arith)) in
    let minus : get_or (decimal (n / 100) ++ (46 ∷ two_digits (n % 100))) 0 0 ≡ 45 = ap (λ t. get_or t 0 0) e in
    omega arith

-- an amount without a minus
pub above_read : (limit n : ℕ) (text : List ℕ) → limit < 2 ^ 64 → n < 100 * limit → text ≡ text_of_cents n → text ≡ text_of_signed (to_z w128 n)
unfolding text_of_signed
above_read limit n text fits h e = e ∙ ap text_of_signed (sym (as_signed limit n fits h))

-- an amount with one
below_is : (n : ℕ) (text rest : List ℕ) → text ≡ 45 ∷ rest → 0 < n → rest ≡ text_of_cents n → text ≡ text_of_signed (neg_ℤ (pos n))
unfolding text_of_signed
below_is zero text rest e some is = absurd (omega arith)
below_is (suc n) text rest e some is = e ∙ ap (λ r. 45 ∷ r) (is ∙ ap text_of_cents (one_more n))
  where
    one_more : (n : ℕ) → suc n ≡ n + 1
    one_more n = omega arith

pub below_read : (limit n : ℕ) (text rest : List ℕ) → limit < 2 ^ 64 → text ≡ 45 ∷ rest → 0 < n → n < 100 * limit → rest ≡ text_of_cents n
    → text ≡ text_of_signed (to_z w128 (of_z w128 (pos 0 -ℤ to_z w128 n)))
below_read limit n text rest fits e some small is =
    let same : pos 0 -ℤ to_z w128 n ≡ neg_ℤ (pos n) = ap (λ z. pos 0 -ℤ z) (as_signed limit n fits small) ∙ minus in
    let within : FitsSigned w128 (neg_ℤ (pos n)) = omega (arith, ints) in
    below_is n text rest e some is ∙ ap text_of_signed (sym (ap (λ z. to_z w128 (of_z w128 z)) same ∙ to_z-of_z w128 (neg_ℤ (pos n)) within))
  where
    minus : pos 0 -ℤ pos n ≡ neg_ℤ (pos n)
    minus = omega (arith, ints)

tail : {r t : List ℕ} → 45 ∷ r ≡ 45 ∷ t → r ≡ t
tail e = cc

pub below_none : (limit : ℕ) (text rest : List ℕ) → limit < 2 ^ 64 → text ≡ 45 ∷ rest → ((n : ℕ) → 0 < n → n < 100 * limit → rest ≢ text_of_cents n) → (z : ℤ) → IsBelow (100 * limit) z → text ≢ text_of_signed z
unfolding text_of_signed
below_none limit text rest fits e h (pos n) is k = no_minus limit n rest fits (let high : pos n <ℤ pos (100 * limit) = is.high in omega (arith, ints)) (sym k ∙ e)
below_none limit text rest fits e h (negsuc n) is k =
    let low : n + 1 < 100 * limit = (let l : neg_ℤ (pos (100 * limit)) <ℤ negsuc n = is.low in omega (arith, ints)) in
    h (n + 1) (omega arith) low (tail (sym e ∙ k))

pub above_none : (limit : ℕ) (text : List ℕ) → ((rest : List ℕ) → text ≢ 45 ∷ rest) → ((n : ℕ) → n < 100 * limit → text ≢ text_of_cents n) → (z : ℤ) → IsBelow (100 * limit) z → text ≢ text_of_signed z
unfolding text_of_signed
above_none limit text other h (pos n) is e = h n (let high : pos n <ℤ pos (100 * limit) = is.high in omega (arith, ints)) e
above_none limit text other h (negsuc n) is e = other (text_of_cents (n + 1)) e

-- an amount has one text
pub signed_injective : (limit : ℕ) (y z : ℤ) → limit < 2 ^ 64 → IsBelow (100 * limit) y → IsBelow (100 * limit) z → text_of_signed y ≡ text_of_signed z → y ≡ z
unfolding text_of_signed
signed_injective limit (pos m) (pos n) fits p q e =
    let low : m < 100 * limit = (let h : pos m <ℤ pos (100 * limit) = p.high in omega (arith, ints)) in
    let high : n < 100 * limit = (let h : pos n <ℤ pos (100 * limit) = q.high in omega (arith, ints)) in
    ap pos (cents_injective m n (omega arith) (omega arith) e)
signed_injective limit (pos m) (negsuc n) fits p q e = absurd (no_minus limit m (text_of_cents (n + 1)) fits (let h : pos m <ℤ pos (100 * limit) = p.high in omega (arith, ints)) e)
signed_injective limit (negsuc m) (pos n) fits p q e = absurd (no_minus limit n (text_of_cents (m + 1)) fits (let h : pos n <ℤ pos (100 * limit) = q.high in omega (arith, ints)) (sym e))
signed_injective limit (negsuc m) (negsuc n) fits p q e =
    let low : m + 1 < 100 * limit = (let l : neg_ℤ (pos (100 * limit)) <ℤ negsuc m = p.low in omega (arith, ints)) in
    let high : n + 1 < 100 * limit = (let l : neg_ℤ (pos (100 * limit)) <ℤ negsuc n = q.low in omega (arith, ints)) in
    let same : m + 1 ≡ n + 1 = cents_injective (m + 1) (n + 1) (omega arith) (omega arith) (tail e) in
    ap negsuc (omega arith)
