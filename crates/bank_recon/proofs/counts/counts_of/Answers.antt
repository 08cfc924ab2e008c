use Rattle.std.proofs.Common.{◌≡◌, get_or, take, pos, arith}
use Rattle.std.proofs.lemmas.List.{get_or_default, length-take}
use Rattle.custodial_book.specs.declared.part.Account.TheVariants.{T}
use Rattle.bank_recon.specs.declared.item.BankItem.{BankItem}
use Rattle.bank_recon.specs.Items.{item}
use Rattle.bank_recon.proofs.CountLemmas.{added_more, count_few}
use Rattle.bank_recon.proofs.counts.counts_of.Goals as goal

pub add-requires : goal.add-requires
add-requires c =
    let xs = c.args.items.now in
    let i = c.loop-item.item-index in
    let d : BankItem = item T 0 (pos 0) in
    let x : BankItem = get_or xs i d in
    let had = c.loop-item.invariant x in
    let few = count_few x (take i xs) in
    omega (arith, length-take i xs)

pub loop-item-preserved : goal.loop-item-preserved
loop-item-preserved c = λ q.
    let xs = c.args.items.now in
    let i = c.loop-item.item-index in
    let d : BankItem = item T 0 (pos 0) in
    let x : BankItem = get_or xs i d in
    let is : x ≡ get_or xs i x = get_or_default xs i d x c.loop-item-test.true in
    added_more xs i x q _ _ c.loop-item-test.true is (c.loop-item.invariant q) (c.in_ok-add.ensures q)
