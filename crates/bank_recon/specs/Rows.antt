-- The rows of a bank's list, field by field.
use Rattle.std.specs.Prelude.{◌≡◌, ◌≢◌, ℕ, zero, suc, ◌^◌, List, [], ◌∷◌, ⊤, ℤ, pos, ◌<ℤ◌, neg_ℤ, codes}
use Rattle.svc_base.specs.Text.{text_of_number, text_of_signed}
use Rattle.svc_types.specs.Requests.{IsReadNumber}
use Rattle.custodial_book.specs.declared.part.Account.{Account}
use Rattle.custodial_book.specs.declared.part.Account.TheVariants.{T, P}
use Rattle.serv_rows.specs.Columns.{IsBadColumn}
use Rattle.bank_recon.specs.declared.line.LineKind.{LineKind}
use Rattle.bank_recon.specs.declared.line.LineKind.TheVariants.{Open, Bank}
use Rattle.bank_recon.specs.declared.line.Line.{Line}

-- the first row of a list names the columns
abbrev pub header : List (List ℕ)
header = codes "kind" ∷ codes "account" ∷ codes "number" ∷ codes "amount" ∷ []

abbrev pub text_of_kind : LineKind → List ℕ
text_of_kind Open = codes "open"
text_of_kind Bank = codes "bank"

abbrev pub text_of_account : Account → List ℕ
text_of_account T = codes "T"
text_of_account P = codes "P"

-- an amount that a row may name: it is not zero and has at most 16 digits before its point
pub record IsItemAmount (z : ℤ) : Type 0 where
  pub some : z ≢ pos 0
  pub low : neg_ℤ (pos (10 ^ 18)) <ℤ z
  pub high : z <ℤ pos (10 ^ 18)

-- the four fields of a row
abbrev pub row_of : Line → List (List ℕ)
row_of l =
    text_of_kind l.kind ∷ text_of_account l.item.account ∷ text_of_number l.item.number ∷
    text_of_signed l.item.cents ∷ []

-- a row has a line
pub record IsLine (row : List (List ℕ)) (l : Line) : Type 0 where
  pub number : IsReadNumber l.item.number
  pub amount : IsItemAmount l.item.cents
  pub fields : row ≡ row_of l

-- ---- where a row that has no line goes wrong: in its first column that does not fit

pub record IsKindWord (field : List ℕ) : Type 0 where
  pub kind : LineKind
  pub is : field ≡ text_of_kind kind

pub record IsAccountWord (field : List ℕ) : Type 0 where
  pub account : Account
  pub is : field ≡ text_of_account account

pub record IsNumberWord (field : List ℕ) : Type 0 where
  pub number : ℕ
  pub range : IsReadNumber number
  pub is : field ≡ text_of_number number

pub record IsAmountWord (field : List ℕ) : Type 0 where
  pub cents : ℤ
  pub range : IsItemAmount cents
  pub is : field ≡ text_of_signed cents

-- the field in a place of four fits; places are counted from 0
abbrev pub Fits : List (List ℕ) → ℕ → Type 0
Fits (kind ∷ rest) zero = IsKindWord kind
Fits (kind ∷ account ∷ rest) (suc zero) = IsAccountWord account
Fits (kind ∷ account ∷ number ∷ rest) (suc (suc zero)) = IsNumberWord number
Fits (kind ∷ account ∷ number ∷ amount ∷ rest) (suc (suc (suc zero))) = IsAmountWord amount
Fits row place = ⊤

-- the column in which a row goes wrong, counted from 1; 5 where it has not four fields
abbrev pub IsBadAt : List (List ℕ) → ℕ → Type 0
IsBadAt row column = IsBadColumn 4 Fits row column
