-- The escrow lines of a loan, and what they pay out in a year.
use Rattle.std.specs.Prelude.{◌≡◌, ℕ, ◌+◌, ◌≤◌, ◌==◌, ◌&&◌, not, Bool, ℤ, pos, ◌+ℤ◌, if◌then◌else◌, List, [], ◌∷◌, length, map, filter, fold, All, false, Option, Some, None}
use Rattle.std.specs.Option.{option_map_or}
use Rattle.std.specs.List.{range_with_len, list_any}
use Rattle.escrow_lines.specs.declared.line.EscrowLineFault.{EscrowLineFault}
use Rattle.escrow_lines.specs.declared.line.EscrowLineFault.TheVariants.{BadLine, Full}
use Rattle.svc_base.specs.Calendar.{number_in_year}
use Rattle.escrow_lines.specs.declared.line.Line.{Line}
use Rattle.escrow_lines.specs.Bills.{IsBill, cents_in, line_fault}

-- whether a line has that id
abbrev pub has_id : ℕ → Line → Bool
has_id id line = line.id == id

-- the lines with that one in the place of the line with its id, or at the end where none has it
abbrev pub with_line : Line → List Line → List Line
with_line line [] = line ∷ []
with_line line (other ∷ lines) = if has_id line.id other then line ∷ lines else other ∷ with_line line lines

-- the lines but for the one with that id
abbrev pub without_line : ℕ → List Line → List Line
without_line id lines = filter (λ line. not (has_id id line)) lines

-- no two lines have one id
abbrev pub HasDistinctIds : List Line → Type 0
HasDistinctIds [] = Unit {0}
HasDistinctIds (line ∷ lines) = (list_any (has_id line.id) lines ≡ false) × HasDistinctIds lines

-- the lines that a loan may have: 16 at most, with distinct ids, and nothing is wrong with any
pub record AreLines (lines : List Line) : Type 0 where
  pub few : length lines ≤ 16
  pub bills : All IsBill lines
  pub distinct : HasDistinctIds lines

-- what the lines pay out in a month of the year
abbrev pub month_total : List Line → ℕ → ℤ
month_total lines number = fold ◌+ℤ◌ (pos 0) (map (cents_in number) lines)

-- what they pay out in each of the 12 months that begin with that one
abbrev pub year_of : List Line → ℕ → List ℤ
year_of lines first = map (λ k. month_total lines (number_in_year (first + k))) (range_with_len 0 12)

-- why a line that is right cannot be set: there are 16 lines, and none has its id
abbrev pub full_fault : Line → List Line → Option EscrowLineFault
full_fault line lines =
    if length lines == 16 && not (list_any (has_id line.id) lines) then Some Full else None

-- why a line cannot be set, if it cannot
abbrev pub set_fault : Line → List Line → Option EscrowLineFault
set_fault line lines = option_map_or (λ why. Some (BadLine why)) (line_fault line) (full_fault line lines)
