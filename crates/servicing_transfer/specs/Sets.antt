-- The loans that a part is of, and what it keeps.
use Rattle.std.specs.Prelude.{ℕ, Bool}
use Rattle.servicing_transfer.specs.declared.loan_set.LoanSet.{LoanSet}
use Rattle.servicing_transfer.specs.declared.loan_set.Scope.{Scope}
use Rattle.servicing_transfer.specs.Parts.{loans_of, is_since}

-- whether a loan is one of a set
abbrev pub set_of : LoanSet → ℕ → Bool
set_of set = loans_of set.inside set.from set.to

-- whether a month is at or after the least one
abbrev pub months_of : Scope → ℕ → Bool
months_of scope = is_since scope.least
