use Rattle.std.specs.Int.{w128}
use Rattle.std.proofs.Common.{◌<◌, ◌^◌, arith, refl, sym, subst, to_z}
use Rattle.servicing_transfer.specs.Stated.{IsStatedLine}
use Rattle.servicing_transfer.proofs.TotalLemmas.{t_fits, t_step, p_step}
use Rattle.servicing_transfer.proofs.reading.totals.Goals as goal

pub overflow_add-t : goal.overflow_add-t
overflow_add-t c =
    let i = c.loop-line.line-index in
    let s = c.line-item.result in
    let was = c.loop-line.invariant in
    let lt = c.loop-line-test.true in
    let few = c.requires.few in
    let is : IsStatedLine s = subst IsStatedLine (sym c.line-item.is) (c.requires.each i s lt) in
    t_fits i c.loop-line.t-bits s (to_z w128 c.loop-line.t-bits) c.cash_in-t.result (omega (arith, lt, few)) is refl was.t_low was.t_high c.cash_in-t.ensures.cash

pub loop-line-preserved : goal.loop-line-preserved
loop-line-preserved c =
    let i = c.loop-line.line-index in
    let s = c.line-item.result in
    let was = c.loop-line.invariant in
    let lt = c.loop-line-test.true in
    let few = c.requires.few in
    let within : i < 2 ^ 32 = omega (arith, lt, few) in
    let is : IsStatedLine s = subst IsStatedLine (sym c.line-item.is) (c.requires.each i s lt) in
    let t = t_step c.args.lines.now i c.loop-line.t-bits s (to_z w128 c.loop-line.t-bits) c.cash_in-t.result lt within c.line-item.is is refl was.t was.t_low was.t_high c.cash_in-t.ensures.cash in
    let p = p_step c.args.lines.now i c.loop-line.p-bits s (to_z w128 c.loop-line.p-bits) lt within c.line-item.is is refl was.p was.p_low was.p_high in
    record { t = t.sum; p = p.sum; t_low = t.low; t_high = t.high; p_low = p.low; p_high = p.high }
