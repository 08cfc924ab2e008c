-- The rows of a command, and what they leave in an account, in cents.
use Rattle.std.specs.Prelude.{◌≡◌, ℕ, ◌<◌, ◌-◌, ◌⊎◌, ℤ, pos, ◌+ℤ◌, ◌-ℤ◌, ◌≤ℤ◌, neg_ℤ, if◌then◌else◌, List, map, filter, fold, length, Option, Some, None, IfSome, slice_get, nat_eq}
use Rattle.std.specs.List.{filter_map}
use Rattle.std.specs.Ordering.{int_eq}
use Rattle.custodial_book.specs.declared.part.Account.{Account}
use Rattle.custodial_book.specs.declared.part.Account.TheVariants.{T, P}
use Rattle.custodial_book.specs.declared.part.Part.{Part}
use Rattle.custodial_book.specs.declared.part.Part.TheVariants.{Received, Returned, Refunded, Disbursed, Collected, Fee, Late, PiAdvance, EscrowAdvance, Remitted, Residual}
use Rattle.custodial_book.specs.declared.row.Row.{Row}
use Rattle.custodial_book.specs.declared.row.Totals.{Totals}
use Rattle.custodial_book.specs.Parts.{parts, paid_from, paid_to, is_account}

-- a loan's total of a part
abbrev pub total_of : Totals → Part → ℤ
total_of t Received = t.received
total_of t Returned = t.returned
total_of t Refunded = t.refunded
total_of t Disbursed = t.disbursed
total_of t Collected = t.collected
total_of t Fee = t.fee
total_of t Late = t.late
total_of t PiAdvance = t.pi_advance
total_of t EscrowAdvance = t.escrow_advance
total_of t Remitted = t.remitted
total_of t Residual = t.residual

-- what a loan's total of a part changed by
abbrev pub change_of : Totals → Totals → Part → ℤ
change_of before after part = total_of after part -ℤ total_of before part

-- the row of a part: what its total changed by; none where it did not change
unfoldable pub row_of : ℕ → ℕ → Totals → Totals → Part → Option Row
row_of number loan before after part =
    if int_eq (total_of after part -ℤ total_of before part) (pos 0) then None
    else
    Some (record {
      number = number;
      loan = loan;
      part = part;
      cents = total_of after part -ℤ total_of before part;
    })

-- a command's rows for a loan: one for each total that differs, in the order of the parts
abbrev pub rows_of : ℕ → ℕ → Totals → Totals → List Row
rows_of number loan before after = filter_map (row_of number loan before after) parts

abbrev pub cents_by_part : Row → Part × ℤ
cents_by_part row = (row.part, row.cents)

-- the rows of the command with that number
abbrev pub rows_of_command : ℕ → List Row → List Row
rows_of_command number rows = filter (λ row. nat_eq row.number number) rows

abbrev pub cents_of : List Row → ℤ
cents_of rows = fold ◌+ℤ◌ (pos 0) (map (λ row. row.cents) rows)

-- the balance of an account: the rows into it less those out of it
unfoldable pub balance_of : Account → List Row → ℤ
balance_of account rows =
    cents_of (filter (λ row. is_account account (paid_to row.part)) rows)
    -ℤ cents_of (filter (λ row. is_account account (paid_from row.part)) rows)

-- what an account holds of a loan's totals: what they brought into it less what they took out
abbrev pub cash_of : Account → Totals → ℤ
cash_of T t =
    (t.received +ℤ t.escrow_advance) -ℤ (t.returned +ℤ t.refunded +ℤ t.disbursed +ℤ t.collected +ℤ t.late)
cash_of P t = (t.collected +ℤ t.pi_advance) -ℤ (t.fee +ℤ t.remitted +ℤ t.residual)

-- the balance of an account after a change of a loan's totals, from the rows before it
abbrev pub balance_with : Account → List Row → Totals → Totals → ℤ
balance_with account rows before after =
    (balance_of account rows +ℤ cash_of account after) -ℤ cash_of account before

-- what a row of that part and those cents brings into an account
unfoldable pub moved : Account → Part → ℤ → ℤ
moved account part cents =
    (if is_account account (paid_to part) then cents else pos 0)
    -ℤ (if is_account account (paid_from part) then cents else pos 0)

-- a total that a loan may have
abbrev pub IsTotal : ℤ → Type 0
IsTotal z = (neg_ℤ (pos 100_000_000_000_000_000) ≤ℤ z) × (z ≤ℤ pos 100_000_000_000_000_000)

-- each total of a loan is one that it may have
abbrev pub AreTotals : Totals → Type 0
AreTotals t = (part : Part) → IsTotal (total_of t part)

-- what a total may change by
abbrev pub IsChange : ℤ → Type 0
IsChange z = (neg_ℤ (pos 200_000_000_000_000_000) ≤ℤ z) × (z ≤ℤ pos 200_000_000_000_000_000)

-- a balance that an account may have
abbrev pub IsBalance : ℤ → Type 0
IsBalance z = (neg_ℤ (pos 1_000_000_000_000_000_000) ≤ℤ z) × (z ≤ℤ pos 1_000_000_000_000_000_000)

-- what an account may hold of a loan's totals, of which it has seven at most, and what that may change by
abbrev pub IsCash : ℤ → Type 0
IsCash z = (neg_ℤ (pos 700_000_000_000_000_000) ≤ℤ z) × (z ≤ℤ pos 700_000_000_000_000_000)

abbrev pub IsCashChange : ℤ → Type 0
IsCashChange z = (neg_ℤ (pos 1_400_000_000_000_000_000) ≤ℤ z) × (z ≤ℤ pos 1_400_000_000_000_000_000)

-- the row stands before the rows of that command for that loan
abbrev pub IsBefore : ℕ → ℕ → Row → Type 0
IsBefore number loan row = (row.number < number) ⊎ ((row.number ≡ number) × (row.loan < loan))

-- the last row, if there is one, stands before those of that command for that loan
abbrev pub ComesNext : ℕ → ℕ → List Row → Type 0
ComesNext number loan rows = IfSome (slice_get rows (length rows - 1)) (IsBefore number loan)
