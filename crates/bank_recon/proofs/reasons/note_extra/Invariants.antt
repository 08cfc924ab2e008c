use Rattle.std.proofs.Common.{◌≡◌, take}
use Rattle.bank_recon.specs.declared.item.BankItem.{BankItem}
use Rattle.bank_recon.specs.Counting.{noted_in}
use Rattle.bank_recon.specs.Finding.{or_extra}
use Rattle.bank_recon.proofs.reasons.note_extra.Given as goal

abbrev pub invariant-loop-item : goal.invariant-loop-item
invariant-loop-item l = (x : BankItem) → noted_in l.notes x ≡ or_extra (take l.item-index l.items) (noted_in l.initial.notes x) x
