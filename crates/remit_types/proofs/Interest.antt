-- A month's interest is never below 0, and rises with the balance.
use Rattle.std.proofs.Common.{ℕ, ◌*◌, ◌≤◌, pos, ℤ, ◌≤ℤ◌, arith, unsigned_abs}
use Rattle.std.proofs.Math.Nat.{mul-le-mul_left, mul-le-mul_right}
use Rattle.std.proofs.lemmas.Int.{ints}
use Rattle.svc_base.specs.Money.{month_interest, half_up}

pub month_interest-low : (upb : ℤ) (rate : ℕ) → pos 0 ≤ℤ month_interest upb rate
unfolding month_interest
month_interest-low upb rate = omega (arith, ints)

pub half_up-mono : (a b : ℕ) → a ≤ b → half_up a 1_200_000 ≤ half_up b 1_200_000
half_up-mono a b h = omega arith

products : (a b rate : ℕ) → a ≤ b → a * rate ≤ b * rate
products a b rate h = mul-le-mul_right rate h

abs_rises : (a b : ℤ) → pos 0 ≤ℤ a → a ≤ℤ b → unsigned_abs a ≤ unsigned_abs b
abs_rises a b low h = omega (arith, ints)

pub month_interest-rises : (a b : ℤ) (rate : ℕ) → pos 0 ≤ℤ a → a ≤ℤ b → month_interest a rate ≤ℤ month_interest b rate
unfolding month_interest
month_interest-rises a b rate low h =
    let e : half_up (unsigned_abs a * rate) 1_200_000 ≤ half_up (unsigned_abs b * rate) 1_200_000 = half_up-mono _ _ (products _ _ rate (abs_rises a b low h)) in
    omega (arith, ints)

-- and with the rate
pub month_interest-rises_with_rate : (upb : ℤ) (a b : ℕ) → a ≤ b → month_interest upb a ≤ℤ month_interest upb b
unfolding month_interest
month_interest-rises_with_rate upb a b h =
    let e : half_up (unsigned_abs upb * a) 1_200_000 ≤ half_up (unsigned_abs upb * b) 1_200_000 = half_up-mono _ _ (mul-le-mul_left (unsigned_abs upb) h) in
    omega (arith, ints)
