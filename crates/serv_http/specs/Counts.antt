-- What a count of the lines of a head says of the bytes that follow.
use Rattle.std.specs.Prelude.{◌≡◌, ℕ, ◌+◌, Bool, true, ltb, leb, List, ◌++◌, length, drop, Option, Some}
use Rattle.serv_http.specs.declared.lines.LineCount.{LineCount}
use Rattle.serv_http.specs.declared.lines.LineCount.TheVariants.{Blank, Left, Full}
use Rattle.serv_http.specs.Heads.{line_limit, from_request_line, after_lines}

-- the lines after the last that a head may have, in these bytes and more
abbrev pub lines_over : List ℕ → Option (List ℕ)
lines_over s = after_lines (line_limit + 1) (from_request_line s)

-- the same by the count, from the bytes that follow alone
abbrev pub lines_on : LineCount → List ℕ → List ℕ → Option (List ℕ)
lines_on Blank s more = lines_over more
lines_on (Left n) s more = after_lines n more
lines_on (Full at) s more = Some (drop at s ++ more)

-- a line feed is left, or the place is there
abbrev pub is_within : LineCount → List ℕ → Bool
is_within Blank s = true
is_within (Left n) s = ltb 0 n
is_within (Full at) s = leb at (length s)

-- the count is that of these bytes, whatever follows
pub record IsCounted (s : List ℕ) (lines : LineCount) : Type 0 where
  pub within : is_within lines s ≡ true
  pub goes_on : (more : List ℕ) → lines_over (s ++ more) ≡ lines_on lines s more
