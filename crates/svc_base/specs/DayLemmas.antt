-- The fields of a day are those that its number gives back.
use Rattle.std.specs.Prelude.{◌≡◌, ℕ, ◌+◌, ◌-◌, ◌*◌, ◌/◌, ◌%◌, ◌≤◌}
use Rattle.std.proofs.Common.{arith}
use Rattle.svc_base.specs.Calendar.{month_length}
use Rattle.svc_base.specs.DayFields.{IsDayOf}
use Rattle.svc_base.specs.declared.day.Day.TheInside.{Inside}

-- no month has more than 31 days
pub month_length_most : (m : ℕ) → month_length m ≤ 31
unfolding month_length
month_length_most m = grind arith

-- and each has 28 or more
pub month_length_least : (m : ℕ) → 28 ≤ month_length m
unfolding month_length
month_length_least m = grind arith

pub month_of_number : (m d : ℕ) → 1 ≤ d → d ≤ 31 → (31 * m + (d - 1)) / 31 ≡ m
month_of_number m d low high = omega arith

pub day_of_number : (m d : ℕ) → 1 ≤ d → d ≤ 31 → (31 * m + (d - 1)) % 31 + 1 ≡ d
day_of_number m d low high = omega arith

same_fields : (m d m' d' : ℕ) → m ≡ m' → d ≡ d' → (let x : Inside = record { month = m; day = d } in let y : Inside = record { month = m'; day = d' } in x ≡ y)
same_fields m d m' d' p q = cc

pub fields_back : (a : Inside) → IsDayOf a.month a.day → record { month = (31 * a.month + (a.day - 1)) / 31; day = (31 * a.month + (a.day - 1)) % 31 + 1 } ≡ a
fields_back a h =
    let most = month_length_most a.month in
    let high : a.day ≤ 31 = omega arith in
    same_fields _ _ a.month a.day (month_of_number a.month a.day h.first high) (day_of_number a.month a.day h.first high)
