-- When the rows of a command may be added to those of the commands before it.
use Rattle.std.specs.Prelude.{◌≡◌, ℕ, ◌<◌, List, [], ◌∷◌, ◌++◌, length, pos, ◌≤ℤ◌}
use Rattle.std.specs.List.{All, AllPairs}
use Rattle.svc_base.specs.Sums.{total_by}
use Rattle.custodial_book.specs.declared.part.Account.{Account}
use Rattle.custodial_book.specs.declared.part.Account.TheVariants.{T, P}
use Rattle.custodial_book.specs.declared.row.Row.{Row}
use Rattle.custodial_book.specs.declared.row.Totals.{Totals}
use Rattle.custodial_book.specs.Rows.{rows_of, balance_of, balance_with, cash_of}
use Rattle.custodial_book.specs.Rows.{AreTotals, IsBalance, ComesNext}
use Rattle.svc_world.specs.Held.{Held}
use Rattle.svc_world.specs.World.{World}
use Rattle.svc_world.specs.Custody.{totals_of}

-- the rows of a command for a loan may be added: they come after those that are there, the totals are such as
-- a loan may have, and the balances after them such as an account may have
pub record MayAppend (n id : ℕ) (rows : List Row) (before later : Totals) : Type 0 where
  pub next : ComesNext n id rows
  pub old : AreTotals before
  pub new : AreTotals later
  pub t : IsBalance (balance_with T rows before later)
  pub p : IsBalance (balance_with P rows before later)

-- the rows of a command for all loans, by the totals that each had before it
unfoldable pub rows_along : ℕ → World → List Totals → List Held → List Row
rows_along n w [] ls = []
rows_along n w (x ∷ xs) [] = []
rows_along n w (x ∷ xs) (l ∷ ls) = rows_of n l.id x (totals_of w l) ++ rows_along n w xs ls

-- an account holds from 0 to 40,960,000,000,000 cents of a loan's totals
pub record IsCashOf (account : Account) (x : Totals) : Type 0 where
  pub low : pos 0 ≤ℤ cash_of account x
  pub high : cash_of account x ≤ℤ pos 40_960_000_000_000

-- the rows of a command for all loans may be added: these rise by number, all rows that are there are those
-- of earlier commands, and the balances are what the accounts hold of the totals before it
pub record MayAppendAll (n : ℕ) (w : World) (totals : List Totals) (rows : List Row) : Type 0 where
  pub count : length totals ≡ length w.loans
  pub rising : AllPairs (λ (k l : Held). k.id < l.id) w.loans
  pub earlier : All (λ (r : Row). r.number < n) rows
  pub each : All AreTotals totals
  pub cash : (account : Account) → All (IsCashOf account) totals
  pub balances : (account : Account) → balance_of account rows ≡ total_by (cash_of account) totals
