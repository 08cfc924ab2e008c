-- The fields of a row, one after the other.
use Rattle.std.specs.Prelude.{ℕ, List, [], ◌∷◌}
use Rattle.serv_import.specs.declared.row.Fields.{Fields}

-- the fields in their order
abbrev pub fields_in : Fields → List (List ℕ)
fields_in f = f.key.now ∷ f.word.now ∷ f.loan.now ∷ f.day.now ∷ f.amount.now ∷ f.line.now ∷ []
