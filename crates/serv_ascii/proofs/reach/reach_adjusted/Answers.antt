use Rattle.std.proofs.Common.{arith}
use Rattle.svc_base.specs.Calendar.{IsMonth}
use Rattle.period_adjust.specs.declared.adjustment.Adjustment.{Adjustment}
use Rattle.serv_ascii.proofs.ReachLemmas.{one_more, at_end}
use Rattle.serv_ascii.proofs.reach.reach_adjusted.Goals as goal

pub loop-adjustment-preserved : goal.loop-adjustment-preserved
loop-adjustment-preserved c =
    one_more (λ (a : Adjustment). IsMonth a.month) c.args.adjustments.now c.loop-adjustment.adjustment-index c.adjustment-item.result c.adjustment-item.result c.adjustment-item.is c.loop-adjustment-test.true c.loop-adjustment.invariant c.reach_month.ensures

pub returns : goal.returns
returns c = at_end (λ (a : Adjustment). IsMonth a.month) c.args.adjustments.now c.loop-adjustment.adjustment-index (omega (arith, c.loop-adjustment-test.false)) c.loop-adjustment.invariant
