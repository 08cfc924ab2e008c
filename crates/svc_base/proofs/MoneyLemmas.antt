-- Bounds and order of what a rate takes of an amount.
use Rattle.std.proofs.Common.{ℕ, ◌+◌, ◌*◌, ◌/◌, ◌<◌, ◌≤◌, arith, lit<}
use Rattle.std.specs.Prelude.{ℤ, pos, negsuc, ◌≤ℤ◌, unsigned_abs}
use Rattle.std.proofs.lemmas.Int.{ints}
use Rattle.std.proofs.Math.Nat.{le-div_iff_mul-le, div-mul-le_self, mul-le-mul, mul-le-mul_left, mul-le-mul_right}
use Rattle.svc_base.specs.Money.{half_up, month_interest, day_interest, share_bp, IsAmount}

-- a greater amount rounds to no less
pub half_up_rises : (a b c : ℕ) → 0 < c → a ≤ b → half_up a c ≤ half_up b c
half_up_rises a b c p h =
    let wide : 0 < 2 * c = omega arith in
    let below = div-mul-le_self (2 * a + c) (2 * c) in
    let room : (2 * a + c) / (2 * c) * (2 * c) ≤ 2 * b + c = omega arith in
    (le-div_iff_mul-le wide).1 room

abs_rises : (u v : ℤ) → pos 0 ≤ℤ u → u ≤ℤ v → unsigned_abs u ≤ unsigned_abs v
abs_rises (pos u) (pos v) low h = omega (arith, ints)
abs_rises (pos u) (negsuc v) low h = absurd (omega (arith, ints))
abs_rises (negsuc u) v low h = absurd (omega (arith, ints))

pub month_interest_low : (u : ℤ) (r : ℕ) → pos 0 ≤ℤ month_interest u r
unfolding month_interest
month_interest_low u r = omega (arith, ints)

pub month_interest_rises : (u v : ℤ) (r s : ℕ) → pos 0 ≤ℤ u → u ≤ℤ v → r ≤ s → month_interest u r ≤ℤ month_interest v s
unfolding month_interest
month_interest_rises u v r s low h k =
    let product = mul-le-mul (abs_rises u v low h) k in
    let rises = half_up_rises (unsigned_abs u * r) (unsigned_abs v * s) 1_200_000 (lit< tt) product in
    omega (arith, ints)

pub month_interest_most : (u : ℤ) (r : ℕ) → IsAmount u → r ≤ 25_000 → month_interest u r ≤ℤ pos 208_333_333
unfolding month_interest
month_interest_most u r amount k =
    let product = mul-le-mul (abs_rises u (pos 10_000_000_000) amount.0 amount.1) k in
    let rises = half_up_rises (unsigned_abs u * r) (10_000_000_000 * 25_000) 1_200_000 (lit< tt) product in
    omega (arith, ints)

pub day_interest_low : (u : ℤ) (r d : ℕ) → pos 0 ≤ℤ day_interest u r d
unfolding day_interest
day_interest_low u r d = omega (arith, ints)

pub day_interest_rises : (u : ℤ) (r s d : ℕ) → r ≤ s → day_interest u r d ≤ℤ day_interest u s d
unfolding day_interest
day_interest_rises u r s d k =
    let product = mul-le-mul_right d (mul-le-mul_left (unsigned_abs u) k) in
    let rises = half_up_rises (unsigned_abs u * r * d) (unsigned_abs u * s * d) 36_000_000 (lit< tt) product in
    omega (arith, ints)

pub day_interest_most : (u : ℤ) (r d : ℕ) → IsAmount u → r ≤ 25_000 → d ≤ 60_000 → day_interest u r d ≤ℤ pos 416_666_666_667
unfolding day_interest
day_interest_most u r d amount k days =
    let product = mul-le-mul (mul-le-mul (abs_rises u (pos 10_000_000_000) amount.0 amount.1) k) days in
    let rises = half_up_rises (unsigned_abs u * r * d) (10_000_000_000 * 25_000 * 60_000) 36_000_000 (lit< tt) product in
    omega (arith, ints)

pub share_bp_low : (c : ℤ) (bp : ℕ) → pos 0 ≤ℤ share_bp c bp
unfolding share_bp
share_bp_low c bp = omega (arith, ints)

pub share_bp_most : (c : ℤ) (bp : ℕ) → IsAmount c → bp ≤ 10_000 → share_bp c bp ≤ℤ pos 10_000_000_000
unfolding share_bp
share_bp_most c bp amount k =
    let product = mul-le-mul (abs_rises c (pos 10_000_000_000) amount.0 amount.1) k in
    let rises = half_up_rises (unsigned_abs c * bp) (10_000_000_000 * 10_000) 10_000 (lit< tt) product in
    omega (arith, ints)

-- the most that each can be, and what holds of whole numbers
pub ruleset limits = (ints, month_interest_most, day_interest_most, share_bp_most)
