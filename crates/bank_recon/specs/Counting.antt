-- What maps of items hold, seen as functions of an item.
use Rattle.std.specs.Prelude.{ℕ, Option}
use Rattle.std.specs.Map.{count_at}
use Rattle.std.specs.BTreeMap.{get}
use Rattle.bank_recon.specs.declared.item.BankItem.{BankItem}
use Rattle.bank_recon.specs.declared.recon.Reason.{Reason}
use Rattle.bank_recon.specs.declared.counts.Counts.{Counts}
use Rattle.bank_recon.specs.declared.reasons.Notes.{Notes}
use Rattle.bank_recon.specs.Keys.{place_of, place_cmp, key_of, key_cmp}

-- how many there are of an item
abbrev pub count_in : Counts → BankItem → ℕ
count_in c x = count_at (get key_cmp c.counts) (key_of x)

-- what is noted of a line's account and number
abbrev pub noted_in : Notes → BankItem → Option Reason
noted_in n line = get place_cmp n.notes (place_of line)
