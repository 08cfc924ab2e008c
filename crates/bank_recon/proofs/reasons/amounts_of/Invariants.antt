use Rattle.std.proofs.Common.{◌≡◌, take}
use Rattle.bank_recon.specs.declared.item.BankItem.{BankItem}
use Rattle.bank_recon.specs.Counting.{noted_in}
use Rattle.bank_recon.specs.Finding.{first_amount}
use Rattle.bank_recon.proofs.reasons.amounts_of.Given as goal

abbrev pub invariant-loop-item : goal.invariant-loop-item
invariant-loop-item l = (x : BankItem) → noted_in l.notes x ≡ first_amount (take l.item-index l.open_items) x
