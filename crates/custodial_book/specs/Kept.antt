-- What a book of rows keeps.
use Rattle.std.specs.Prelude.{◌≡◌, ℕ, ℤ, List}
use Rattle.std.specs.List.Sorted.{IsNonDecreasingBy}
use Rattle.custodial_book.specs.declared.part.Account.TheVariants.{T, P}
use Rattle.custodial_book.specs.declared.row.Row.{Row}
use Rattle.custodial_book.specs.Rows.{balance_of, IsBalance}

-- the rows of a book, and for how many more it has room
pub record Kept : Type 0 where
  pub rows : List Row
  pub spare : ℕ

-- the rows rise by number, and t and p are the balances of the accounts
pub record IsBook (rows : List Row) (t p : ℤ) : Type 0 where
  pub rising : IsNonDecreasingBy (λ row. row.number) rows
  pub t_is : t ≡ balance_of T rows
  pub p_is : p ≡ balance_of P rows
  pub t_bound : IsBalance t
  pub p_bound : IsBalance p
