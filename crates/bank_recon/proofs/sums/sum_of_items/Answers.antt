use Rattle.std.proofs.Common.{◌≡◌, ◌+◌, get_or, take, pos, ◌+ℤ◌, to_z, of_z, arith}
use Rattle.std.specs.Int.{w128}
use Rattle.std.proofs.lemmas.Int.{ints}
use Rattle.custodial_book.specs.declared.part.Account.TheVariants.{T}
use Rattle.bank_recon.specs.declared.item.BankItem.{BankItem}
use Rattle.bank_recon.specs.Items.{item}
use Rattle.bank_recon.specs.Reconciling.{cents_in, sum_in}
use Rattle.bank_recon.proofs.RowLemmas.{sum_more}
use Rattle.bank_recon.proofs.sums.sum_of_items.Goals as goal

pub loop-item-preserved : goal.loop-item-preserved
loop-item-preserved c =
    let i = c.loop-item.item-index in
    let d : BankItem = item T 0 (pos 0) in
    let x : BankItem = get_or c.args.items.now i d in
    let value : c.cents_in-sum.result ≡ cents_in c.args.account x = c.cents_in-sum.ensures.value in
    let more : sum_in c.args.account (take (i + 1) c.args.items.now) ≡ sum_in c.args.account (take (i) c.args.items.now) +ℤ cents_in c.args.account x =
    sum_more c.args.account c.args.items.now i d c.loop-item-test.true in
    let fits : to_z w128 (of_z w128 (to_z w128 c.loop-item.sum-bits +ℤ to_z w128 (of_z w128 c.cents_in-sum.result))) ≡ to_z w128 c.loop-item.sum-bits +ℤ c.cents_in-sum.result = omega (arith, ints) in
    record { value = omega (arith, ints); low = omega (arith, ints); high = omega (arith, ints) }
