use Rattle.std.proofs.Common.{◌≡◌, ◌-◌, [], take}
use Rattle.bank_recon.specs.declared.item.BankItem.{BankItem}
use Rattle.bank_recon.specs.Counting.{count_in}
use Rattle.bank_recon.specs.Items.{count_of}
use Rattle.bank_recon.specs.Matching.{matched_from, left_from}
use Rattle.bank_recon.proofs.matching.part_items.Given as goal

abbrev pub invariant-loop-item : goal.invariant-loop-item
invariant-loop-item l = record {
  matched : l.parted.matched.items ≡ matched_from l.others [] (take l.item-index l.items);
  left : l.parted.left.items ≡ left_from l.others [] (take l.item-index l.items);
  counts : (q : BankItem) → count_in l.counts q ≡ count_of q l.others - count_of q (take l.item-index l.items);
}
