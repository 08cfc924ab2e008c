-- The parts of custodial cash: whose money each moves, and to whom.
use Rattle.std.specs.Prelude.{ℕ, Bool, true, false, List, [], ◌∷◌, slice_index_or}
use Rattle.custodial_book.specs.declared.part.Account.{Account}
use Rattle.custodial_book.specs.declared.part.Account.TheVariants.{T, P}
use Rattle.custodial_book.specs.declared.part.Party.{Party}
use Rattle.custodial_book.specs.declared.part.Party.TheVariants.{Borrower, Payee, Servicer, Investor, Custodial}
use Rattle.custodial_book.specs.declared.part.Part.{Part}
use Rattle.custodial_book.specs.declared.part.Part.TheVariants.{Received, Returned, Refunded, Disbursed, Collected, Fee, Late, PiAdvance, EscrowAdvance, Remitted, Residual}

-- the parts in the order of a command's rows
abbrev pub parts : List Part
parts =
    Received ∷ Returned ∷ Refunded ∷ Disbursed ∷ Collected ∷ Fee ∷ Late ∷ PiAdvance ∷ EscrowAdvance ∷
    Remitted ∷ Residual ∷ []

-- the part at that place among them, from 0
abbrev pub nth_part : ℕ → Part
nth_part place = slice_index_or parts place Received

-- who pays
abbrev pub paid_from : Part → Party
paid_from Received = Borrower
paid_from Returned = Custodial T
paid_from Refunded = Custodial T
paid_from Disbursed = Custodial T
paid_from Collected = Custodial T
paid_from Fee = Custodial P
paid_from Late = Custodial T
paid_from PiAdvance = Servicer
paid_from EscrowAdvance = Servicer
paid_from Remitted = Custodial P
paid_from Residual = Custodial P

-- who is paid
abbrev pub paid_to : Part → Party
paid_to Received = Custodial T
paid_to Returned = Borrower
paid_to Refunded = Borrower
paid_to Disbursed = Payee
paid_to Collected = Custodial P
paid_to Fee = Servicer
paid_to Late = Servicer
paid_to PiAdvance = Custodial P
paid_to EscrowAdvance = Custodial T
paid_to Remitted = Investor
paid_to Residual = Servicer

-- whether that party is that account
abbrev pub is_account : Account → Party → Bool
is_account T (Custodial T) = true
is_account P (Custodial P) = true
is_account account party = false
