-- Two lists of rising loans, gone through together.
use Rattle.std.specs.Prelude.{ℕ, ◌==◌, min, if◌then◌else◌, List, [], ◌∷◌, Option, Some, None}
use Rattle.std.specs.List.{flat_map}
use Rattle.servicing_transfer.specs.declared.statement_line.StatementLine.{StatementLine}
use Rattle.servicing_transfer.specs.Confirmations.{together, loan_numbers, line_about}

-- the least loan of both
abbrev pub least_loan : List StatementLine → List StatementLine → Option ℕ
least_loan [] [] = None
least_loan (r ∷ rs) [] = Some r.loan
least_loan [] (s ∷ ss) = Some s.loan
least_loan (r ∷ rs) (s ∷ ss) = Some (min r.loan s.loan)

-- the first line where it is that of a loan, and what is left after it
abbrev pub first_for : ℕ → List StatementLine → Option StatementLine
first_for id [] = None
first_for id (s ∷ ss) = if s.loan == id then Some s else None

abbrev pub left_after : ℕ → List StatementLine → List StatementLine
left_after id [] = []
left_after id (s ∷ ss) = if s.loan == id then ss else s ∷ ss

-- a line for each loan of both
abbrev pub lines_about : List StatementLine → List StatementLine → List ℕ
lines_about text books = flat_map (line_about text books) (together (loan_numbers text) (loan_numbers books))
