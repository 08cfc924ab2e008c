use Rattle.std.proofs.Common.{◌≡◌, get_or, pos, ◌∙◌}
use Rattle.std.proofs.lemmas.List.{get_or_default}
use Rattle.custodial_book.specs.declared.part.Account.TheVariants.{T}
use Rattle.bank_recon.specs.declared.item.BankItem.{BankItem}
use Rattle.bank_recon.specs.Items.{item}
use Rattle.bank_recon.proofs.FindLemmas.{extra_more}
use Rattle.bank_recon.proofs.reasons.note_extra.Goals as goal

pub loop-item-preserved : goal.loop-item-preserved
loop-item-preserved c = λ q.
    let xs = c.args.items.now in
    let i = c.loop-item.item-index in
    let d : BankItem = item T 0 (pos 0) in
    let x : BankItem = get_or xs i d in
    let is : x ≡ get_or xs i x = get_or_default xs i d x c.loop-item-test.true in
    c.in_ok-note.ensures q ∙ extra_more xs i x q _ _ c.loop-item-test.true is (c.loop-item.invariant q)
