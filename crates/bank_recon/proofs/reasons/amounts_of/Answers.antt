use Rattle.std.proofs.Common.{◌≡◌, get_or, pos, ap, ◌∙◌}
use Rattle.std.proofs.lemmas.List.{get_or_default}
use Rattle.custodial_book.specs.declared.part.Account.TheVariants.{T}
use Rattle.bank_recon.specs.declared.item.BankItem.{BankItem}
use Rattle.bank_recon.specs.Items.{item}
use Rattle.bank_recon.specs.declared.recon.Reason.{Reason}
use Rattle.bank_recon.specs.Counting.{noted_in}
use Rattle.bank_recon.specs.Finding.{noted}
use Rattle.bank_recon.proofs.FindLemmas.{amounts_more}
use Rattle.bank_recon.proofs.reasons.amounts_of.Goals as goal

pub loop-item-preserved : goal.loop-item-preserved
loop-item-preserved c = λ q.
    let xs = c.args.open_items.now in
    let i = c.loop-item.item-index in
    let d : BankItem = item T 0 (pos 0) in
    let x : BankItem = get_or xs i d in
    let is : x ≡ get_or xs i x = get_or_default xs i d x c.loop-item-test.true in
    c.in_ok-note.ensures q ∙ ap (λ (r : Reason). noted x r (noted_in c.loop-item.notes q) q) c.amount_reason.ensures
    ∙ amounts_more xs i x q _ c.loop-item-test.true is (c.loop-item.invariant q)
