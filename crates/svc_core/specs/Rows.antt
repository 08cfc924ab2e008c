-- What is known of the rows, and of the custodial numbers that run along.
use Rattle.std.specs.Prelude.{◌≡◌, ℕ, ◌≤◌, List}
use Rattle.std.specs.List.{All}
use Rattle.svc_base.specs.Sums.{total_by}
use Rattle.custodial_book.specs.declared.row.Row.{Row}
use Rattle.custodial_book.specs.declared.part.Account.TheVariants.{T, P}
use Rattle.custodial_book.specs.Rows.{balance_of}
use Rattle.svc_world.specs.declared.custody.Custody.{Custody}
use Rattle.svc_world.specs.World.{World}
use Rattle.svc_world.specs.Custody.{borrower_cash, held_for, custody_of}
use Rattle.svc_custody.specs.declared.position.Position.{Position}
use Rattle.svc_custody.specs.Positions.{positions_of}

-- after n commands: the custodial line and the positions are those of the world, the rows are those of these
-- commands, and their balances are what is held for all loans
pub record IsCash (n : ℕ) (w : World) (rows : List Row) (custody : Custody) (positions : List Position) : Type 0 where
  pub line : custody ≡ custody_of w
  pub places : positions ≡ positions_of w
  pub numbers : All (λ (r : Row). r.number ≤ n) rows
  pub t : balance_of T rows ≡ total_by borrower_cash w.loans
  pub p : balance_of P rows ≡ total_by (held_for w) w.loans
