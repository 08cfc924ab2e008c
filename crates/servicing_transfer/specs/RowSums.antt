-- What the custodial rows of a loan say of it.
use Rattle.std.specs.Prelude.{ℕ, ◌==◌, if◌then◌else◌, List, [], ◌∷◌, ℤ, pos, ◌+ℤ◌, Option, Some, None}
use Rattle.std.specs.Int.{w64, int_wrap}
use Rattle.svc_base.specs.Sums.{total_by}
use Rattle.custodial_book.specs.declared.part.Account.TheVariants.{P}
use Rattle.custodial_book.specs.declared.part.Part.{Part}
use Rattle.custodial_book.specs.declared.part.Part.TheVariants.{PiAdvance, EscrowAdvance}
use Rattle.custodial_book.specs.declared.row.Row.{Row}
use Rattle.custodial_book.specs.Rows.{moved}
use Rattle.servicing_transfer.specs.declared.row_sums.RowSums.{RowSums}

-- what a row says, where it is of the loan
abbrev pub of_loan : ℕ → (Part → ℤ → ℤ) → Row → ℤ
of_loan id g row = if row.loan == id then g row.part row.cents else pos 0

-- what a row brings into the account P
abbrev pub held_by : Part → ℤ → ℤ
held_by part cents = moved P part cents

-- what it says is advanced of principal and interest, and of escrow
abbrev pub advanced_by : Part → ℤ → ℤ
advanced_by PiAdvance cents = cents
advanced_by part cents = pos 0

abbrev pub escrow_by : Part → ℤ → ℤ
escrow_by EscrowAdvance cents = cents
escrow_by part cents = pos 0

-- a sum that is kept in 64 bits: sums on the way may leave them, and come back
abbrev pub kept : ℤ → ℤ
kept z = int_wrap w64 z

-- the sums of a loan with more of each
abbrev pub sums_with : RowSums → ℤ → ℤ → ℤ → RowSums
sums_with s escrow held advanced = record {
  escrow_advance = kept (s.escrow_advance +ℤ escrow);
  held = kept (s.held +ℤ held);
  pi_advance = kept (s.pi_advance +ℤ advanced);
}

-- the sums of a loan with a row, where it is of the loan
abbrev pub with_own : ℕ → Row → RowSums → RowSums
with_own id row s =
    if row.loan == id
    then sums_with s (escrow_by row.part row.cents) (held_by row.part row.cents) (advanced_by row.part row.cents)
    else s

-- the sums of a loan with those of more rows
abbrev pub with_rows : ℕ → List Row → RowSums → RowSums
with_rows id [] s = s
with_rows id (row ∷ rows) s = with_rows id rows (with_own id row s)

abbrev pub no_sums : RowSums
no_sums = record { escrow_advance = pos 0; held = pos 0; pi_advance = pos 0 }

-- the sums that are kept for a loan: none are nothing
abbrev pub or_none : Option RowSums → RowSums
or_none None = no_sums
or_none (Some s) = s

-- what is kept of all rows of a loan among some
abbrev pub kept_sums : ℕ → List Row → RowSums
kept_sums id rows = record {
  escrow_advance = kept (total_by (of_loan id escrow_by) rows);
  held = kept (total_by (of_loan id held_by) rows);
  pi_advance = kept (total_by (of_loan id advanced_by) rows);
}
