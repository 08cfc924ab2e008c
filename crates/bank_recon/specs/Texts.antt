-- The text of a reconciliation.
use Rattle.std.specs.Prelude.{◌≡◌, ℕ, ℤ, List, ◌∷◌, ◌++◌, codes}
use Rattle.std.specs.List.{flat_map}
use Rattle.svc_base.specs.Text.{text_of_number, text_of_signed}
use Rattle.custodial_book.specs.declared.part.Account.{Account}
use Rattle.custodial_book.specs.declared.part.Account.TheVariants.{T, P}
use Rattle.svc_world.specs.World.{Accepted}
use Rattle.serv_line.specs.Replies.{ended, signed_field}
use Rattle.serv_rows.specs.Texts.{text_of_bad_row}
use Rattle.bank_recon.specs.declared.item.BankItem.{BankItem}
use Rattle.bank_recon.specs.declared.recon.Reason.{Reason}
use Rattle.bank_recon.specs.declared.recon.Reason.TheVariants.{NoSuch, Extra, Amount}
use Rattle.bank_recon.specs.Items.{items_in}
use Rattle.bank_recon.specs.Matching.{open_of, reasons_of}
use Rattle.bank_recon.specs.Reconciling.{sum_in, lines_of, book_of}
use Rattle.bank_recon.specs.Rows.{text_of_account}
use Rattle.bank_recon.specs.Reading.{Reading, Lists, BadRow, IsReading}

-- a word and the space before it
abbrev pub spaced : List ℕ → List ℕ
spaced word = 32 ∷ word

-- an account, a number and an amount
unfoldable pub text_of_item : BankItem → List ℕ
text_of_item x =
    text_of_account x.account ++ spaced (text_of_number x.number) ++ spaced (text_of_signed x.cents)

abbrev pub text_of_reason : Reason → List ℕ
text_of_reason NoSuch = codes "NoSuch"
text_of_reason Extra = codes "Extra"
text_of_reason (Amount cents) = codes "Amount " ++ text_of_signed cents

-- a span of commands
unfoldable pub span_line : ℕ → ℕ → List ℕ
span_line first last = ended (codes "reconcile " ++ text_of_number first ++ spaced (text_of_number last))

-- an item that the bank does not show
unfoldable pub open_line : BankItem → List ℕ
open_line x = ended (codes "open " ++ text_of_item x)

-- a line of the bank that is not booked, with its reason
unfoldable pub unbooked_line : BankItem × Reason → List ℕ
unbooked_line l = ended (codes "unbooked " ++ text_of_item l.0 ++ spaced (text_of_reason l.1))

-- what the books say of an account, what the bank says, and by what they differ
unfoldable pub text_of_sums : ℤ → ℤ → ℤ → ℤ → List ℕ
text_of_sums book bank outstanding unbooked =
    signed_field (codes "book") book ++ signed_field (codes "bank") bank
    ++ signed_field (codes "open") outstanding ++ signed_field (codes "unbooked") unbooked

-- the line of an account
unfoldable pub sums_line : Account → ℤ → ℤ → ℤ → ℤ → List ℕ
sums_line account book bank outstanding unbooked = ended
    (codes "account " ++ text_of_account account ++ text_of_sums book bank outstanding unbooked)

abbrev pub account_line : Account → ℤ → List BankItem → List BankItem → List BankItem → List ℕ
account_line account book bank open_items unbooked =
    sums_line account book (sum_in account bank) (sum_in account open_items) (sum_in account unbooked)

-- what is found, with what the books say of both accounts
unfoldable pub text_of_found : ℤ → ℤ → List BankItem → List BankItem → List (BankItem × Reason) → List ℕ
text_of_found book_t book_p bank open_items unbooked =
    flat_map open_line open_items ++ flat_map unbooked_line unbooked
    ++ account_line T book_t bank open_items (lines_of unbooked)
    ++ account_line P book_p bank open_items (lines_of unbooked) ++ ended (codes "end")

-- the reconciliation of a span with what a bank's list says
unfoldable pub text_of_recon : List BankItem → List BankItem → ℕ → ℕ → List Accepted → List ℕ
text_of_recon carried bank first last h =
    span_line first last
    ++ text_of_found (book_of T carried first last h) (book_of P carried first last h) bank
    (open_of (items_in carried first last h) bank) (reasons_of (items_in carried first last h) bank)

abbrev pub text_of_reading : Reading → ℕ → ℕ → List Accepted → List ℕ
text_of_reading (Lists carried bank) first last h = text_of_recon carried bank first last h
text_of_reading (BadRow row column) first last h = text_of_bad_row row column

-- the text of a history's reconciliation over a span with the bytes of a bank's list
pub record IsReconText (h : List Accepted) (first last : ℕ) (bytes text : List ℕ) : Type 0 where
  pub reading : Reading
  pub read : IsReading bytes reading
  pub is : text ≡ text_of_reading reading first last h
