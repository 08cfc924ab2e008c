-- Where a row goes wrong: in its first column that does not fit.
use Rattle.std.specs.Prelude.{◌≡◌, ◌≢◌, ℕ, ◌+◌, List, length}
use Rattle.serv_line.specs.LineFaults.{IsFirstMisfit}

-- the column in which a row goes wrong, counted from 1: the first whose field does not fit its place, counted from 0, or
-- the one behind the last where the row has another count of fields
pub data IsBadColumn (width : ℕ) (fits : List (List ℕ) → ℕ → Type 0) (row : List (List ℕ)) : ℕ → Type 0 where
  count : length row ≢ width → IsBadColumn width fits row (width + 1)
  column : (place : ℕ) → length row ≡ width → IsFirstMisfit (fits row) place → IsBadColumn width fits row (place + 1)
