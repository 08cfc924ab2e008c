-- What a CSV file asks, row by row.
use Rattle.std.specs.Prelude.{◌≡◌, ⊤, ℕ, suc, List, [], ◌∷◌}
use Rattle.serv_rows.specs.Files.{records_of, BeginsWith}
use Rattle.serv_import.specs.declared.row.RowRequest.{RowRequest}
use Rattle.serv_import.specs.declared.row.RowRequest.TheVariants as request
use Rattle.serv_import.specs.Rows.{header, Asks}
use Rattle.serv_import.specs.Columns.{IsBadAt}

-- what the row with a number is taken for: the command that it asks, or the column in which it goes wrong
abbrev pub IsAnswer : ℕ → List (List ℕ) → RowRequest → Type 0
IsAnswer number row (request.Row key c) = Asks row key c
IsAnswer number row (request.Bad n column) = (n ≡ number) × IsBadAt row column

-- what rows are taken for, the first of them with that number
abbrev pub AreAnswers : ℕ → List (List (List ℕ)) → List RowRequest → Type 0
AreAnswers number [] [] = ⊤
AreAnswers number (row ∷ rows) (answer ∷ answers) =
    IsAnswer number row answer × AreAnswers (suc number) rows answers
AreAnswers number rows answers = ⊥

-- a file begins with the header
abbrev pub HasHeader : List ℕ → Type 0
HasHeader bytes = BeginsWith header bytes

-- what a file asks: the header is row 1, and each row after it has an answer
pub record IsBatch (bytes : List ℕ) (answers : List RowRequest) : Type 0 where
  pub rows : List (List (List ℕ))
  pub begins : records_of bytes ≡ header ∷ rows
  pub each : AreAnswers 2 rows answers
