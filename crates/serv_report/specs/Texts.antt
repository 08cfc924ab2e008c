-- The lines of a loan's books and payoff, of the custodial accounts, and of a command's rows.
use Rattle.std.specs.Prelude.{ℕ, ℤ, List, ◌∷◌, ◌++◌, Option, Some, None, length, codes}
use Rattle.std.specs.List.{flat_map}
use Rattle.svc_base.specs.Text.{text_of_number, text_of_amount, text_of_signed, text_of_day, text_of_month}
use Rattle.svc_types.specs.declared.books.Books.{Books}
use Rattle.custodial_book.specs.declared.part.Account.TheVariants as account
use Rattle.custodial_book.specs.declared.part.Party.{Party}
use Rattle.custodial_book.specs.declared.part.Party.TheVariants as party
use Rattle.custodial_book.specs.declared.part.Part.{Part}
use Rattle.custodial_book.specs.declared.part.Part.TheVariants as part
use Rattle.custodial_book.specs.declared.row.Row.{Row}
use Rattle.custodial_book.specs.Parts.{paid_from, paid_to}
use Rattle.svc_world.specs.declared.custody.Custody.{Custody}
use Rattle.serv_line.specs.Replies.{ended, number_field, amount_field, signed_field}

-- a word and the space before it
abbrev pub spaced : List ℕ → List ℕ
spaced word = 32 ∷ word

-- what a line begins with: its name and a number
abbrev pub numbered : List ℕ → ℕ → List ℕ
numbered name n = name ++ text_of_number n

-- the last line of a text that has many
abbrev pub end_line : List ℕ
end_line = ended (codes "end")

-- the month in which the open installment is due; a dash where the loan is satisfied
abbrev pub text_of_next : Option ℕ → List ℕ
text_of_next None = codes " next -"
text_of_next (Some m) = codes " next " ++ text_of_month m

-- what a loan owes, and what is held for it
unfoldable pub text_of_balances : Books → Option ℕ → List ℕ
text_of_balances b next =
    amount_field (codes "upb") b.upb ++ text_of_next next
    ++ signed_field (codes "escrow") b.escrow ++ amount_field (codes "suspense") b.suspense
    ++ amount_field (codes "late") b.late_owed

-- what was collected of it since boarding
unfoldable pub text_of_collected : Books → List ℕ
text_of_collected b =
    amount_field (codes "interest") b.interest ++ amount_field (codes "fee") b.fee
    ++ amount_field (codes "principal") b.principal ++ amount_field (codes "charges") b.late_paid

-- what a line begins with that speaks of a loan on a day
abbrev pub on_day : List ℕ → ℕ → ℕ → List ℕ
on_day name loan day = numbered name loan ++ spaced (text_of_day day)

-- a loan's books at their day, with the due month of the open installment and the whole of it
unfoldable pub text_of_books : ℕ → Books → Option ℕ → ℤ → List ℕ
text_of_books loan b next pay = ended
    (on_day (codes "books ") loan b.day ++ text_of_balances b next ++ text_of_collected b
    ++ amount_field (codes "pay") pay)

-- what pays a loan off on a day
unfoldable pub text_of_payoff : ℕ → ℕ → ℤ → List ℕ
text_of_payoff loan day cents = ended (on_day (codes "payoff ") loan day ++ spaced (text_of_amount cents))

-- what both custodial accounts hold
unfoldable pub text_of_accounts : Custody → List ℕ
text_of_accounts c = signed_field (codes "T") c.t ++ signed_field (codes "P") c.p

-- what T is made of
unfoldable pub text_of_borrower_cash : Custody → List ℕ
text_of_borrower_cash c =
    amount_field (codes "suspense") c.suspense ++ signed_field (codes "escrow") c.escrow
    ++ amount_field (codes "escrow-advance") c.escrow_advance

-- what P is made of, and what was advanced to the investor
unfoldable pub text_of_investor_cash : Custody → List ℕ
text_of_investor_cash c = amount_field (codes "held") c.held ++ amount_field (codes "pi-advance") c.pi_advance

-- the custodial accounts, and what they are made of
unfoldable pub text_of_custody : Custody → List ℕ
text_of_custody c = ended
    (codes "custodial" ++ text_of_accounts c ++ text_of_borrower_cash c ++ text_of_investor_cash c)

-- the names of the parts of custodial cash
abbrev pub text_of_part : Part → List ℕ
text_of_part part.Received = codes "Received"
text_of_part part.Returned = codes "Returned"
text_of_part part.Refunded = codes "Refunded"
text_of_part part.Disbursed = codes "Disbursed"
text_of_part part.Collected = codes "Collected"
text_of_part part.Fee = codes "Fee"
text_of_part part.Late = codes "Late"
text_of_part part.PiAdvance = codes "PiAdvance"
text_of_part part.EscrowAdvance = codes "EscrowAdvance"
text_of_part part.Remitted = codes "Remitted"
text_of_part part.Residual = codes "Residual"

-- the names of those who pay and are paid
abbrev pub text_of_party : Party → List ℕ
text_of_party party.Borrower = codes "Borrower"
text_of_party party.Payee = codes "Payee"
text_of_party party.Servicer = codes "Servicer"
text_of_party party.Investor = codes "Investor"
text_of_party (party.Custodial account.T) = codes "T"
text_of_party (party.Custodial account.P) = codes "P"

-- a part, who pays, and who is paid
unfoldable pub text_of_names : Part → List ℕ
text_of_names p =
    spaced (text_of_part p) ++ spaced (text_of_party (paid_from p)) ++ spaced (text_of_party (paid_to p))

-- a row: its loan, its part with both sides, and its cents; a negative amount goes the other way
unfoldable pub text_of_row : Row → List ℕ
text_of_row r = ended
    (numbered (codes "row ") r.loan ++ text_of_names r.part ++ spaced (text_of_signed r.cents))

-- the number of a command, and how many rows it has
unfoldable pub text_of_count : ℕ → ℕ → List ℕ
text_of_count number n = ended (numbered (codes "rows ") number ++ number_field (codes "count") n)

-- the rows of a command
unfoldable pub text_of_rows : ℕ → List Row → List ℕ
text_of_rows number rows = text_of_count number (length rows) ++ flat_map text_of_row rows ++ end_line
