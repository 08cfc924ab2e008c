-- What is noted of an account and a number: the first of some reasons.
use Rattle.std.specs.Prelude.{List, Option, Some, None, if◌then◌else◌}
use Rattle.std.specs.List.{find, list_any}
use Rattle.std.specs.Option.{option_map, option_or}
use Rattle.bank_recon.specs.declared.item.BankItem.{BankItem}
use Rattle.bank_recon.specs.declared.recon.Reason.{Reason}
use Rattle.bank_recon.specs.declared.recon.Reason.TheVariants.{Extra, Amount}
use Rattle.bank_recon.specs.Items.{is_near}

-- what is noted for a line, after a reason was noted for an item
abbrev pub noted : BankItem → Reason → Option Reason → BankItem → Option Reason
noted x reason before line = if is_near line x then option_or before (Some reason) else before

-- the amount of the first open item with a line's account and number
abbrev pub first_amount : List BankItem → BankItem → Option Reason
first_amount open_items line = option_map (λ (x : BankItem). Amount x.cents) (find (is_near line) open_items)

-- where nothing is noted: whether an item has the line's account and number
abbrev pub or_extra : List BankItem → Option Reason → BankItem → Option Reason
or_extra items before line = option_or before (if list_any (is_near line) items then Some Extra else None)
