use Rattle.std.proofs.Common.{◌≡◌, ◌+◌, get_or, take, pos, ◌+ℤ◌, to_z, of_z, arith}
use Rattle.std.specs.Int.{w128}
use Rattle.std.proofs.lemmas.Int.{ints}
use Rattle.custodial_book.specs.declared.part.Account.TheVariants.{T}
use Rattle.bank_recon.specs.declared.item.BankItem.{BankItem}
use Rattle.bank_recon.specs.declared.recon.Reason.{Reason}
use Rattle.bank_recon.specs.declared.recon.Reason.TheVariants.{NoSuch}
use Rattle.bank_recon.specs.Items.{item}
use Rattle.bank_recon.specs.Reconciling.{cents_in, sum_in, lines_of}
use Rattle.bank_recon.proofs.RowLemmas.{lines_more}
use Rattle.bank_recon.proofs.sums.sum_of_lines.Goals as goal

pub loop-line-preserved : goal.loop-line-preserved
loop-line-preserved c =
    let i = c.loop-line.line-index in
    let d : BankItem × Reason = (item T 0 (pos 0), NoSuch) in
    let x : BankItem × Reason = get_or c.args.lines.now i d in
    let value : c.cents_in-sum.result ≡ cents_in c.args.account x.0 = c.cents_in-sum.ensures.value in
    let more : sum_in c.args.account (lines_of (take (i + 1) c.args.lines.now)) ≡ sum_in c.args.account (lines_of (take (i) c.args.lines.now)) +ℤ cents_in c.args.account x.0 =
    lines_more c.args.account c.args.lines.now i d c.loop-line-test.true in
    let fits : to_z w128 (of_z w128 (to_z w128 c.loop-line.sum-bits +ℤ to_z w128 (of_z w128 c.cents_in-sum.result))) ≡ to_z w128 c.loop-line.sum-bits +ℤ c.cents_in-sum.result = omega (arith, ints) in
    record { value = omega (arith, ints); low = omega (arith, ints); high = omega (arith, ints) }
