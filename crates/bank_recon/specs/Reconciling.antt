-- What a reconciliation says: books and bank agree but for what stands open and what is not booked.
use Rattle.std.specs.Prelude.{◌≡◌, ℕ, ◌-◌, if◌then◌else◌, List, ◌++◌, map, take, ℤ, pos, ◌+ℤ◌, ◌-ℤ◌}
use Rattle.std.specs.List.Sorted.{IsPermutation}
use Rattle.svc_base.specs.Sums.{total_by}
use Rattle.custodial_book.specs.declared.part.Account.{Account}
use Rattle.custodial_book.specs.Rows.{balance_of}
use Rattle.svc_world.specs.World.{Accepted}
use Rattle.svc_world.specs.Custody.{rows_in}
use Rattle.bank_recon.specs.declared.item.BankItem.{BankItem}
use Rattle.bank_recon.specs.declared.recon.Recon.{Recon}
use Rattle.bank_recon.specs.declared.recon.Reason.{Reason}
use Rattle.bank_recon.specs.Items.{is_same_account, items_in}
use Rattle.bank_recon.specs.Matching.{matched_of, open_of, reasons_of}

-- what an item moves of an account
abbrev pub cents_in : Account → BankItem → ℤ
cents_in account x = if is_same_account account x.account then x.cents else pos 0

-- what some items move of an account
abbrev pub sum_in : Account → List BankItem → ℤ
sum_in account xs = total_by (cents_in account) xs

-- the balance of an account after the first so many commands
abbrev pub balance_after : Account → ℕ → List Accepted → ℤ
balance_after account count h = balance_of account (rows_in (take count h))

-- what the books say of an account: the change of its balance over the span, and what was carried
abbrev pub book_of : Account → List BankItem → ℕ → ℕ → List Accepted → ℤ
book_of account carried first last h =
    (balance_after account last h -ℤ balance_after account (first - 1) h) +ℤ sum_in account carried

-- the lines without their reasons
abbrev pub lines_of : List (BankItem × Reason) → List BankItem
lines_of unbooked = map (λ l. l.0) unbooked

-- books and bank of an account differ by the open items and the lines that are not booked
abbrev pub AgreesIn : Account → List BankItem → List BankItem → ℕ → ℕ → List Accepted → Recon → Type 0
AgreesIn account carried bank first last h r =
    book_of account carried first last h
    ≡ sum_in account bank +ℤ sum_in account r.outstanding.items
    -ℤ sum_in account (lines_of r.unbooked.items)

-- what is found of the items that were carried, those of a span, and the lines of the bank. Each item is
-- matched or open, and each line is matched or not booked
pub record IsRecon (carried bank : List BankItem) (first last : ℕ) (h : List Accepted) (r : Recon)
    : Type 0 where
  pub outstanding : r.outstanding.items ≡ open_of (items_in carried first last h) bank
  pub unbooked : r.unbooked.items ≡ reasons_of (items_in carried first last h) bank
  pub matched : r.matched.items ≡ matched_of (items_in carried first last h) bank
  pub items_once : IsPermutation (items_in carried first last h) (r.matched.items ++ r.outstanding.items)
  pub lines_once : IsPermutation bank (r.matched.items ++ lines_of r.unbooked.items)
  pub agrees : (account : Account) → AgreesIn account carried bank first last h r
