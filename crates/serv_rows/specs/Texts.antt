-- The line of a row that does not fit.
use Rattle.std.specs.Prelude.{ℕ, List, ◌++◌, codes}
use Rattle.svc_base.specs.Text.{text_of_number}
use Rattle.serv_line.specs.Replies.{ended}

-- the row with that number goes wrong in a column
unfoldable pub text_of_bad_row : ℕ → ℕ → List ℕ
text_of_bad_row row column =
    ended (codes "bad row " ++ text_of_number row ++ codes " column " ++ text_of_number column)
