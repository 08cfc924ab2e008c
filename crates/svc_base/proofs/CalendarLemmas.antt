-- How `day_after` goes through months.
use Rattle.std.proofs.Common.{◌≡◌, ℕ, zero, suc, ◌+◌, ◌*◌, ◌-◌, ◌/◌, ◌<◌, ◌≤◌, true, false, nat_lt, arith, refl, ap, ◌∙◌, ◌⊎◌, inl, inr}
use Rattle.svc_base.specs.Calendar.{month_length, day_in_month, month_of, first_day, next_day, day_after, IsDay}
use Rattle.svc_base.specs.DayLemmas.{month_length_most, month_length_least}

next_within : (d : ℕ) → day_in_month d < month_length (month_of d) → next_day d ≡ d + 1
next_within d h = grind arith

next_beyond : (d : ℕ) → month_length (month_of d) ≤ day_in_month d → next_day d ≡ first_day (month_of d + 1)
next_beyond d h = grind arith

same_month : (d : ℕ) → day_in_month d < month_length (month_of d) → (d + 1) / 31 ≡ d / 31
same_month d h = omega (arith, month_length_most (month_of d))

one_later : (d : ℕ) → day_in_month d < month_length (month_of d) → day_in_month (d + 1) ≡ day_in_month d + 1
one_later d h = omega (arith, month_length_most (month_of d))

same_length : (d : ℕ) → day_in_month d < month_length (month_of d) → month_length (month_of (d + 1)) ≡ month_length (month_of d)
same_length d h = ap month_length (same_month d h)

-- within the month the number rises by the days
pub day_after_within : (d n : ℕ) → day_in_month d + n ≤ month_length (month_of d) → day_after d n ≡ d + n
unfolding day_after
day_after_within d zero h = omega arith
day_after_within d (suc n) h =
    let inside : day_in_month d < month_length (month_of d) = omega arith in
    let shorter : day_in_month (d + 1) + n ≤ month_length (month_of (d + 1)) = omega (arith, one_later d inside, same_length d inside) in
    let steps : day_after (next_day d) n ≡ day_after (d + 1) n = ap (λ x. day_after x n) (next_within d inside) in
    let rest = day_after_within (d + 1) n shorter in
    let e : (d + 1) + n ≡ d + suc n = omega arith in
    steps ∙ rest ∙ e

-- past its end the count goes on from the first day of the next month
pub day_after_beyond : (d n : ℕ) → IsDay d → month_length (month_of d) < day_in_month d + n → day_after d n ≡ day_after (first_day (month_of d + 1)) (day_in_month d + n - month_length (month_of d) - 1)
unfolding day_after
day_after_beyond d zero is h = absurd (omega arith)
day_after_beyond d (suc n) is h =
    elim (nat_lt (day_in_month d) (month_length (month_of d))) as (λ b. nat_lt (day_in_month d) (month_length (month_of d)) ≡ b → day_after (next_day d) n ≡ day_after (first_day (month_of d + 1)) (day_in_month d + suc n - month_length (month_of d) - 1)) [
      | true ↦ λ e.
          let inside : day_in_month d < month_length (month_of d) = grind arith in
          let is' : IsDay (d + 1) = omega (arith, one_later d inside, same_length d inside) in
          let long : month_length (month_of (d + 1)) < day_in_month (d + 1) + n = omega (arith, one_later d inside, same_length d inside) in
          let steps : day_after (next_day d) n ≡ day_after (d + 1) n = ap (λ x. day_after x n) (next_within d inside) in
          let rest = day_after_beyond (d + 1) n is' long in
          let month : first_day (month_of (d + 1) + 1) ≡ first_day (month_of d + 1) = omega (arith, same_month d inside) in
          let left : day_in_month (d + 1) + n - month_length (month_of (d + 1)) - 1 ≡ day_in_month d + suc n - month_length (month_of d) - 1 = omega (arith, one_later d inside, same_length d inside) in
          steps ∙ rest ∙ ap (λ x. day_after x (day_in_month (d + 1) + n - month_length (month_of (d + 1)) - 1)) month ∙ ap (day_after (first_day (month_of d + 1))) left
      | false ↦ λ e.
          let past : month_length (month_of d) ≤ day_in_month d = grind arith in
          let steps : day_after (next_day d) n ≡ day_after (first_day (month_of d + 1)) n = ap (λ x. day_after x n) (next_beyond d past) in
          let left : n ≡ day_in_month d + suc n - month_length (month_of d) - 1 = omega arith in
          steps ∙ ap (day_after (first_day (month_of d + 1))) left
    ] refl

-- so many days of a month after its first day: in it, or in the next one
pub after_first : (m n : ℕ) → n ≤ 29 → ((n < month_length m) × (day_after (first_day m) n ≡ first_day m + n)) ⊎ ((month_length m ≤ n) × (day_after (first_day m) n ≡ first_day (m + 1) + (n - month_length m)))
after_first m n few =
    let least = month_length_least m in
    let least' = month_length_least (m + 1) in
    let month : month_of (first_day m) ≡ m = omega arith in
    let place : day_in_month (first_day m) ≡ 1 = omega arith in
    elim (nat_lt n (month_length m)) as (λ v. nat_lt n (month_length m) ≡ v → ((n < month_length m) × (day_after (first_day m) n ≡ first_day m + n)) ⊎ ((month_length m ≤ n) × (day_after (first_day m) n ≡ first_day (m + 1) + (n - month_length m)))) [
      | true ↦ λ e.
          let fits : n < month_length m = grind arith in
          inl (fits, day_after_within (first_day m) n (rw (month, place) (omega arith)))
      | false ↦ λ e.
          let past : month_length m ≤ n = grind arith in
          let is : IsDay (first_day m) = rw (month, place) (omega arith) in
          let beyond = day_after_beyond (first_day m) n is (rw (month, place) (omega arith)) in
          let left : day_in_month (first_day m) + n - month_length (month_of (first_day m)) - 1 ≡ n - month_length m = rw (month, place) (omega arith) in
          let later : first_day (month_of (first_day m) + 1) ≡ first_day (m + 1) = ap (λ x. first_day (x + 1)) month in
          let steps = beyond ∙ ap (λ x. day_after x (day_in_month (first_day m) + n - month_length (month_of (first_day m)) - 1)) later ∙ ap (day_after (first_day (m + 1))) left in
          let month' : month_of (first_day (m + 1)) ≡ m + 1 = omega arith in
          let place' : day_in_month (first_day (m + 1)) ≡ 1 = omega arith in
          let near = day_after_within (first_day (m + 1)) (n - month_length m) (rw (month', place') (omega arith)) in
          inr (past, steps ∙ near)
    ] refl

next_day_later : (d : ℕ) → d + 1 ≤ next_day d
next_day_later d = grind arith

-- n days later is at least n numbers on
pub day_after_least : (d n : ℕ) → d + n ≤ day_after d n
unfolding day_after
day_after_least d zero = omega arith
day_after_least d (suc n) = omega (arith, next_day_later d, day_after_least (next_day d) n)

next_day_most : (d : ℕ) → next_day d ≤ d + 4
next_day_most d = grind (arith, month_length_least)

-- n days later is at most four numbers on for each
pub day_after_most : (d n : ℕ) → day_after d n ≤ d + 4 * n
unfolding day_after
day_after_most d zero = omega arith
day_after_most d (suc n) = omega (arith, next_day_most d, day_after_most (next_day d) n)
