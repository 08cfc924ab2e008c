-- Which items and which lines of the bank go together.
use Rattle.std.specs.Prelude.{nat_lt, Bool, List, [], ◌∷◌, map, Option, Some, None, if◌then◌else◌}
use Rattle.std.specs.List.{find, list_any}
use Rattle.bank_recon.specs.declared.item.BankItem.{BankItem}
use Rattle.bank_recon.specs.declared.recon.Reason.{Reason}
use Rattle.bank_recon.specs.declared.recon.Reason.TheVariants.{NoSuch, Extra, Amount}
use Rattle.bank_recon.specs.Items.{is_near, count_of}

-- the j-th of the same items has a partner where the others have j of them: more than stand before it
abbrev pub has_partner : List BankItem → List BankItem → BankItem → Bool
has_partner others before x = nat_lt (count_of x before) (count_of x others)

-- the items of a list with a partner among the others, and those without; some stand before the list
abbrev pub matched_from : List BankItem → List BankItem → List BankItem → List BankItem
matched_from others before [] = []
matched_from others before (x ∷ xs) =
    if has_partner others before x then x ∷ matched_from others (x ∷ before) xs
    else matched_from others (x ∷ before) xs

abbrev pub left_from : List BankItem → List BankItem → List BankItem → List BankItem
left_from others before [] = []
left_from others before (x ∷ xs) =
    if has_partner others before x then left_from others (x ∷ before) xs
    else x ∷ left_from others (x ∷ before) xs

-- the j-th item of an account, number and amount is matched with the j-th line of the bank of the same three
abbrev pub matched_of : List BankItem → List BankItem → List BankItem
matched_of items bank = matched_from bank [] items

-- the items that the bank does not show
abbrev pub open_of : List BankItem → List BankItem → List BankItem
open_of items bank = left_from bank [] items

-- the lines of the bank that are not booked
abbrev pub unbooked_of : List BankItem → List BankItem → List BankItem
unbooked_of items bank = left_from items [] bank

-- all items with the line's account and number are matched, or the first that is not has another amount
abbrev pub amount_of : Option BankItem → Reason
amount_of None = Extra
amount_of (Some x) = Amount x.cents

-- why a line is not booked, from the items and those of them that are open
abbrev pub reason_of : List BankItem → List BankItem → BankItem → Reason
reason_of items open_items line =
    if list_any (is_near line) items then amount_of (find (is_near line) open_items) else NoSuch

abbrev pub with_reason : List BankItem → List BankItem → BankItem → BankItem × Reason
with_reason items open_items line = (line, reason_of items open_items line)

-- the lines that are not booked, each with its reason
abbrev pub reasons_of : List BankItem → List BankItem → List (BankItem × Reason)
reasons_of items bank = map (with_reason items (open_of items bank)) (unbooked_of items bank)
