use Rattle.std.proofs.Common.{pos, get_or, ◌≤ℤ◌, arith}
use Rattle.std.proofs.lemmas.Int.{ints}
use Rattle.svc_types.specs.declared.escrow.LineKind.TheVariants.{Tax}
use Rattle.escrow_lines.specs.declared.line.Line.{Line}
use Rattle.escrow_lines.specs.Bills.{IsBill}
use Rattle.escrow_lines.proofs.LineLemmas.{total_more}
use Rattle.escrow_lines.proofs.lines.month_total.Goals as goal

pub loop-line-preserved : goal.loop-line-preserved
loop-line-preserved c =
    let none : Line = record { id = 0; kind = Tax; month = 0; every = 0; cents = pos 0 } in
    let bill : IsBill (get_or c.args.lines.now c.loop-line.line-index none) = c.requires.bills c.loop-line.line-index none c.loop-line-test.true in
    let owed : pos 0 ≤ℤ (get_or c.args.lines.now c.loop-line.line-index none).cents = omega (arith, ints, bill.cents_low) in
    let low = c.cents_in-total.ensures.low owed in
    let high = c.cents_in-total.ensures.high owed in
    let value = c.cents_in-total.ensures.value in
    let more = total_more c.args.number c.args.lines.now c.loop-line.line-index none c.loop-line-test.true in
    let few = c.requires.few in
    let most = bill.cents_high in
    record { so_far = omega (arith, ints); low = omega (arith, ints); high = omega (arith, ints) }
