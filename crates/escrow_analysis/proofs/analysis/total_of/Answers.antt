use Rattle.std.proofs.Common.{◌<◌, pos, length, get_or, arith, rules}
use Rattle.std.proofs.lemmas.Int.{ints}
use Rattle.svc_base.specs.EscrowMonths.{IsMonthPaid}
use Rattle.escrow_analysis.proofs.Balances.{total_more}
use Rattle.escrow_analysis.proofs.analysis.total_of.Goals as goal

pub overflow_cast-total : goal.overflow_cast-total
overflow_cast-total c =
    let inside : c.loop-paid.paid-index < length c.args.year.now = search rules in
    let month : IsMonthPaid (get_or c.args.year.now c.loop-paid.paid-index (pos 0)) = c.requires c.loop-paid.paid-index (pos 0) inside in
    (omega (arith, ints), omega (arith, ints))

pub overflow_add-total : goal.overflow_add-total
overflow_add-total c =
    let inside : c.loop-paid.paid-index < length c.args.year.now = search rules in
    let month : IsMonthPaid (get_or c.args.year.now c.loop-paid.paid-index (pos 0)) = c.requires c.loop-paid.paid-index (pos 0) inside in
    omega (arith, ints)

pub loop-paid-preserved : goal.loop-paid-preserved
loop-paid-preserved c =
    let inside : c.loop-paid.paid-index < length c.args.year.now = search rules in
    let month : IsMonthPaid (get_or c.args.year.now c.loop-paid.paid-index (pos 0)) = c.requires c.loop-paid.paid-index (pos 0) inside in
    let more = total_more c.args.year.now c.loop-paid.paid-index inside in
    record {
      so_far = omega (arith, ints);
      high = omega (arith, ints);
    }
