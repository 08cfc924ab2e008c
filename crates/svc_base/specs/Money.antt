-- Interest and shares, rounded half up. Cents are whole numbers, rates thousandths of a percent.
use Rattle.std.specs.Prelude.{ℕ, ◌+◌, ◌*◌, ◌/◌, ℤ, pos, ◌≤ℤ◌, unsigned_abs}

-- a / b, rounded to the nearest whole number, a half upwards
abbrev pub half_up : ℕ → ℕ → ℕ
half_up a b = (2 * a + b) / (2 * b)

-- the interest of one month on a balance, at a yearly rate
unfoldable pub month_interest : ℤ → ℕ → ℤ
month_interest upb rate = pos (half_up (unsigned_abs upb * rate) 1_200_000)

-- the interest of some days of a year of 360, on a balance, at a yearly rate
unfoldable pub day_interest : ℤ → ℕ → ℕ → ℤ
day_interest upb rate days = pos (half_up (unsigned_abs upb * rate * days) 36_000_000)

-- so many hundredths of a percent of an amount
unfoldable pub share_bp : ℤ → ℕ → ℤ
share_bp cents bp = pos (half_up (unsigned_abs cents * bp) 10_000)

-- an amount of money that a rule takes: 0 to ten thousand million cents
abbrev pub IsAmount : ℤ → Type 0
IsAmount z = (pos 0 ≤ℤ z) × (z ≤ℤ pos 10_000_000_000)
