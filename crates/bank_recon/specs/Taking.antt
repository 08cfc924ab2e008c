-- What one row of a bank's list adds to what it says.
use Rattle.std.specs.Prelude.{◌≡◌, ℕ, List, [], ◌∷◌, ◌++◌}
use Rattle.std.specs.List.{AllZip}
use Rattle.bank_recon.specs.declared.item.BankItem.{BankItem}
use Rattle.bank_recon.specs.declared.line.LineKind.TheVariants.{Open, Bank}
use Rattle.bank_recon.specs.declared.line.Line.{Line}
use Rattle.bank_recon.specs.declared.statement.Statement.{Statement}
use Rattle.bank_recon.specs.Rows.{IsLine}
use Rattle.bank_recon.specs.Reading.{items_of_kind}

-- what rows after the header have
pub record HasLines (rows : List (List (List ℕ))) (carried bank : List BankItem) : Type 0 where
  pub lines : List Line
  pub each : AllZip IsLine rows lines
  pub carried_are : carried ≡ items_of_kind Open lines
  pub bank_are : bank ≡ items_of_kind Bank lines

-- a statement has a line more
pub record TakesLine (line : Line) (old new : Statement) : Type 0 where
  pub carried : new.carried.items ≡ old.carried.items ++ items_of_kind Open (line ∷ [])
  pub bank : new.bank.items ≡ old.bank.items ++ items_of_kind Bank (line ∷ [])
