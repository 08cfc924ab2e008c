use Rattle.std.proofs.Common.{◌≡◌, take}
use Rattle.bank_recon.specs.declared.item.BankItem.{BankItem}
use Rattle.bank_recon.specs.Counting.{count_in}
use Rattle.bank_recon.specs.Items.{count_of}
use Rattle.bank_recon.proofs.counts.counts_of.Given as goal

abbrev pub invariant-loop-item : goal.invariant-loop-item
invariant-loop-item l = (x : BankItem) → count_in l.counts x ≡ count_of x (take l.item-index l.items)
