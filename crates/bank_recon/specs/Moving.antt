-- Rows whose movement goes either way.
use Rattle.custodial_book.specs.declared.row.Row.{Row}
use Rattle.custodial_book.specs.Rows.{IsChange}

-- a row's cents are what a total may change by, so minus its cents is an amount as well
abbrev pub IsMovable : Row → Type 0
IsMovable row = IsChange row.cents
