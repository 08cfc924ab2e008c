-- Aggregate analysis of a computation year: 12 CFR 1024.17(c)(1)(ii) and (d)(2)(i). A year is the
-- list of what is paid out in each of its 12 months, in cents.
use Rattle.std.specs.Prelude.{ℕ, ◌*◌, ◌/◌, ℤ, pos, ◌+ℤ◌, ◌-ℤ◌, ◌≤ℤ◌, neg_ℤ, unsigned_abs, List, [], ◌∷◌, take, fold, All}

-- the months of a computation year
abbrev pub months : List ℕ
months = 1 ∷ 2 ∷ 3 ∷ 4 ∷ 5 ∷ 6 ∷ 7 ∷ 8 ∷ 9 ∷ 10 ∷ 11 ∷ 12 ∷ []

-- what is paid out in all of these months
abbrev pub total : List ℤ → ℤ
total year = fold ◌+ℤ◌ (pos 0) year

-- the monthly escrow payment: one twelfth of the year's total, rounded down
abbrev pub base : List ℤ → ℤ
base year = pos (unsigned_abs (total year) / 12)

-- the cushion: so many twelfths of the year's total, rounded down
abbrev pub cushion : List ℤ → ℕ → ℤ
cushion year n = pos (n * unsigned_abs (total year) / 12)

-- the balance at the end of month k, where the account opens with that much and takes in a payment
-- each month: what it opened with, and k payments less what was paid out in months 1 to k
abbrev pub balance_after : List ℤ → ℤ → ℕ → ℕ → ℤ
balance_after year opening payment k = opening +ℤ (pos (k * payment) -ℤ total (take k year))

-- the trial balance at the end of month k: the account opens with nothing
abbrev pub trial : List ℤ → ℕ → ℤ
trial year k = pos (k * unsigned_abs (base year)) -ℤ total (take k year)

-- no balance of a year is further from 0 than this
pub record IsBalance (balance : ℤ) : Type 0 where
  pub low : neg_ℤ (pos 1_920_000_000_000) ≤ℤ balance
  pub high : balance ≤ℤ pos 5_920_000_000_000

-- the balance at the end of month k, where the account opens with that much
abbrev pub target : List ℤ → ℤ → ℕ → ℤ
target year opening k = opening +ℤ trial year k

-- with that opening the balance is at the cushion or above at the end of every month
abbrev pub KeepsCushion : List ℤ → ℕ → ℤ → Type 0
KeepsCushion year n opening = All (λ k. cushion year n ≤ℤ target year opening k) months

-- the opening keeps every month at the cushion, and no smaller one does
pub record IsLeastOpening (year : List ℤ) (n : ℕ) (opening : ℤ) : Type 0 where
  pub keeps : KeepsCushion year n opening
  pub least : (other : ℤ) → KeepsCushion year n other → opening ≤ℤ other
