-- What the books say of the custodial accounts over a span of commands, item by item.
use Rattle.std.specs.Prelude.{ℕ, ◌+◌, ◌-◌, ◌&&◌, ◌==◌, Bool, true, false, List, [], ◌∷◌, ◌++◌, ℤ, pos, ◌-ℤ◌}
use Rattle.std.specs.List.{count_by, flat_map, range_with_len}
use Rattle.std.specs.Ordering.{int_eq}
use Rattle.custodial_book.specs.declared.part.Account.{Account}
use Rattle.custodial_book.specs.declared.part.Account.TheVariants.{T, P}
use Rattle.custodial_book.specs.declared.part.Party.{Party}
use Rattle.custodial_book.specs.declared.part.Party.TheVariants.{Borrower, Payee, Servicer, Investor, Custodial}
use Rattle.custodial_book.specs.declared.row.Row.{Row}
use Rattle.custodial_book.specs.Parts.{paid_from, paid_to}
use Rattle.custodial_book.specs.Rows.{rows_of_command}
use Rattle.svc_world.specs.World.{Accepted}
use Rattle.svc_world.specs.Custody.{rows_in}
use Rattle.bank_recon.specs.declared.item.BankItem.{BankItem}

abbrev pub item : Account → ℕ → ℤ → BankItem
item account number cents = record { account = account; number = number; cents = cents }

abbrev pub is_same_account : Account → Account → Bool
is_same_account T T = true
is_same_account P P = true
is_same_account a b = false

-- two items have one account and one number
abbrev pub is_near : BankItem → BankItem → Bool
is_near x y = is_same_account x.account y.account && (x.number == y.number)

-- two items have one account, one number and one amount
abbrev pub is_same : BankItem → BankItem → Bool
is_same x y = is_near x y && int_eq x.cents y.cents

-- how many of some items are the same as one
abbrev pub count_of : BankItem → List BankItem → ℕ
count_of x xs = count_by (is_same x) xs

-- what a movement of some cents is to one who pays or is paid: an item where that is a custodial account
abbrev pub item_at : Party → ℕ → ℤ → List BankItem
item_at Borrower number cents = []
item_at Payee number cents = []
item_at Servicer number cents = []
item_at Investor number cents = []
item_at (Custodial account) number cents = item account number cents ∷ []

-- the items of a row: minus its cents to the account that they come from, and its cents to the one that they
-- go to
abbrev pub items_of : Row → List BankItem
items_of row =
    item_at (paid_from row.part) row.number (pos 0 -ℤ row.cents)
    ++ item_at (paid_to row.part) row.number row.cents

-- the rows of a span of commands, from the first number to the last; numbers after the last command have none
abbrev pub rows_of_span : ℕ → ℕ → List Accepted → List Row
rows_of_span first last h =
    flat_map (λ number. rows_of_command number (rows_in h)) (range_with_len first (last + 1 - first))

-- what the bank is to show: the items that an earlier reconciliation carried, then those of the span
abbrev pub items_in : List BankItem → ℕ → ℕ → List Accepted → List BankItem
items_in carried first last h = carried ++ flat_map items_of (rows_of_span first last h)
