-- One escrow line: a bill of some months of each year (12 CFR 1024.17(b), disbursements).
use Rattle.std.specs.Prelude.{ℕ, ◌+◌, ◌-◌, ◌%◌, ◌≤◌, ◌==◌, ◌||◌, ◌&&◌, not, Bool, IsTrue, ℤ, pos, ◌≤ℤ◌, int_le, nat_le, if◌then◌else◌, [], ◌∷◌, Option}
use Rattle.std.specs.List.{find}
use Rattle.svc_types.specs.declared.faults.LineWhy.{LineWhy}
use Rattle.svc_types.specs.declared.faults.LineWhy.TheVariants.{Amount, MonthRange, Every}
use Rattle.escrow_lines.specs.declared.line.Line.{Line}

-- a period divides a year
abbrev pub is_period : ℕ → Bool
is_period n = (n == 1) || (n == 2) || (n == 3) || (n == 4) || (n == 6) || (n == 12)

-- whether the line is right in what a fault speaks of
abbrev pub is_right : Line → LineWhy → Bool
is_right line Amount = int_le (pos 1) line.cents && int_le line.cents (pos 10_000_000_000)
is_right line MonthRange = nat_le 1 line.month && nat_le line.month 12
is_right line Every = is_period line.every

-- the first thing that is wrong with a line, if any is
abbrev pub line_fault : Line → Option LineWhy
line_fault line = find (λ why. not (is_right line why)) (Amount ∷ MonthRange ∷ Every ∷ [])

-- a line that may be kept: nothing is wrong with it
pub record IsBill (line : Line) : Type 0 where
  pub cents_low : pos 1 ≤ℤ line.cents
  pub cents_high : line.cents ≤ℤ pos 10_000_000_000
  pub month_low : 1 ≤ line.month
  pub month_high : line.month ≤ 12
  pub every : IsTrue (is_period line.every)

-- how many months lie between two months of a year
abbrev pub months_apart : ℕ → ℕ → ℕ
months_apart m n = (m - n) + (n - m)

-- the line falls in each month of the year that lies a multiple of its period from its own month
abbrev pub falls_in : Line → ℕ → Bool
falls_in line number = months_apart number line.month % line.every == 0

-- what the line pays out in a month of the year
unfoldable pub cents_in : ℕ → Line → ℤ
cents_in number line = if falls_in line number then line.cents else pos 0
