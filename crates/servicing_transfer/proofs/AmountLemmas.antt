-- Amounts and months of a statement, from their texts.
use Rattle.std.proofs.Common.{◌≡◌, ◌≢◌, ℕ, ◌/◌, ◌*◌, ◌^◌, ◌<◌, ◌≤◌, List, arith, sym, ◌∙◌, ◌⊎◌, inl, inr, IfSome, IfNone, ℤ, pos, ◌<ℤ◌, Option, Some, None}
use Rattle.std.proofs.lemmas.Int.{ints}
use Rattle.svc_base.specs.Text.{IsCivilMonth, text_of_signed, text_of_month}
use Rattle.svc_base.proofs.TextLemmas.{month_injective}
use Rattle.serv_rows.specs.Amounts.{IsBelow}
use Rattle.serv_rows.proofs.AmountLemmas.{signed_injective}
use Rattle.servicing_transfer.specs.Stated.{IsStatedAmount, IsStatedBalance, IsStatedMonth}

-- ---- amounts

within : (z : ℤ) → IsStatedBalance z → IsBelow (100 * 10 ^ 18) z
within z is =
    let low = is.low in
    let high = is.high in
    record { low = omega (arith, ints, low); high = omega (arith, ints, high) }

pub balance_range : (r : Option ℤ) → IfSome r (IsBelow (100 * 10 ^ 18)) → IfSome r IsStatedBalance
balance_range None h = tt
balance_range (Some z) h =
    let low = h.low in
    let high = h.high in
    record { low = omega (arith, ints, low); high = omega (arith, ints, high) }

pub no_balance : (r : Option ℤ) (text : List ℕ) → IfNone r ((z : ℤ) → IsBelow (100 * 10 ^ 18) z → text ≢ text_of_signed z) → IfNone r ((z : ℤ) → IsStatedBalance z → text ≢ text_of_signed z)
no_balance None text h = λ z is. h z (within z is)
no_balance (Some z) text h = tt

pub balance_injective : (y z : ℤ) → IsStatedBalance y → IsStatedBalance z → text_of_signed y ≡ text_of_signed z → y ≡ z
balance_injective y z p q e = signed_injective (10 ^ 18) y z (omega arith) (within y p) (within z q) e

pub amount_is_balance : (z : ℤ) → IsStatedAmount z → IsStatedBalance z
amount_is_balance z is = let l = is.low in record { low = grind (arith, ints); high = is.high }

pub no_amount : (text : List ℕ) → ((z : ℤ) → IsStatedBalance z → text ≢ text_of_signed z) → (z : ℤ) → IsStatedAmount z → text ≢ text_of_signed z
no_amount text none z is = none z (amount_is_balance z is)

-- the text of an amount below zero is that of no other
pub below_zero : (text : List ℕ) (y : ℤ) → text ≡ text_of_signed y → IsStatedBalance y → y <ℤ pos 0 → (z : ℤ) → IsStatedAmount z → text ≢ text_of_signed z
below_zero text y is range below z amount e =
    let same : y ≡ z = balance_injective y z range (amount_is_balance z amount) (sym is ∙ e) in
    let low = amount.low in
    omega (arith, ints, same, low)

-- ---- months

-- a month of another year is none that is stated
pub other_month : (text : List ℕ) (m : ℕ) → IsCivilMonth m → text ≡ text_of_month m → (m < 23_880) ⊎ (25_692 ≤ m) → (n : ℕ) → IsStatedMonth n → text ≢ text_of_month n
other_month text m civil p outside n is e =
    let low : 1990 ≤ n / 12 = is.first in
    let high : n / 12 ≤ 2140 = is.last in
    let same : m ≡ n = month_injective m n civil (omega arith) (sym p ∙ e) in
    apart outside same low high
  where
    apart : {m n : ℕ} → (m < 23_880) ⊎ (25_692 ≤ m) → m ≡ n → 1990 ≤ n / 12 → n / 12 ≤ 2140 → ⊥
    apart (inl below) same low high = omega arith
    apart (inr above) same low high = omega arith
