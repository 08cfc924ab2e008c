-- The calendar of the books. A month is counted from January of the year 0, and a day is seen as a
-- number, 31 to each month, so that later days have greater numbers; some numbers are no day.
use Rattle.std.specs.Prelude.{ℕ, zero, suc, ◌+◌, ◌-◌, ◌*◌, ◌/◌, ◌%◌, ◌≤◌, ◌<◌, nat_lt, min, pos, if◌then◌else◌}
use Rattle.jiff_core.specs.Calendar.{days_in_month}

-- the year of a month
abbrev pub year_of_month : ℕ → ℕ
year_of_month m = m / 12

-- the month's number in its year, from 1
abbrev pub number_in_year : ℕ → ℕ
number_in_year m = m % 12 + 1

-- how many days a month has, by the Gregorian calendar
unfoldable pub month_length : ℕ → ℕ
month_length m = days_in_month (pos (year_of_month m)) (number_in_year m)

-- the months that the books reach begin with January 1989, the year before the first that requests
-- name, and end with December 2140
abbrev pub months_begin : ℕ
months_begin = 23_868

abbrev pub months_end : ℕ
months_end = 25_692

-- a month that the books reach
pub record IsMonth (m : ℕ) : Type 0 where
  pub begin : months_begin ≤ m
  pub end : m < months_end

-- the month of a day
abbrev pub month_of : ℕ → ℕ
month_of d = d / 31

-- the day's place in its month, from 1
abbrev pub day_in_month : ℕ → ℕ
day_in_month d = d % 31 + 1

-- the first day of a month
abbrev pub first_day : ℕ → ℕ
first_day m = 31 * m

-- the last day of a month
abbrev pub last_day : ℕ → ℕ
last_day m = 31 * m + (month_length m - 1)

-- the calendar has this day
abbrev pub IsDay : ℕ → Type 0
IsDay d = day_in_month d ≤ month_length (month_of d)

-- a day that requests may name: of the years 1990 to 2099
pub record IsReadDay (d : ℕ) : Type 0 where
  pub exists : IsDay d
  pub first : 1990 ≤ year_of_month (month_of d)
  pub last : year_of_month (month_of d) ≤ 2099

-- the day after a day
abbrev pub next_day : ℕ → ℕ
next_day d = if nat_lt (day_in_month d) (month_length (month_of d)) then d + 1 else first_day (month_of d + 1)

-- the day that comes n days later
unfoldable pub day_after : ℕ → ℕ → ℕ
day_after d zero = d
day_after d (suc n) = day_after (next_day d) n

-- a day's place where each month has 30 days, and the 31st counts as the 30th
abbrev pub place360 : ℕ → ℕ
place360 d = 30 * month_of d + min (day_in_month d) 30

-- days from one day to another where each month has 30 days; never below 0
abbrev pub days360 : ℕ → ℕ → ℕ
days360 a b = place360 b - place360 a
