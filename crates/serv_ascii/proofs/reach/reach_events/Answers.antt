use Rattle.std.proofs.Common.{arith}
use Rattle.serv_ascii.specs.Reach.{IsReachedEvent}
use Rattle.serv_ascii.proofs.ReachLemmas.{one_more, at_end}
use Rattle.serv_ascii.proofs.reach.reach_events.Goals as goal

pub loop-line-preserved : goal.loop-line-preserved
loop-line-preserved c =
    one_more IsReachedEvent c.args.lines.now c.loop-line.line-index c.line-item.result c.line-item.result c.line-item.is c.loop-line-test.true c.loop-line.invariant c.reach_event.ensures

pub returns : goal.returns
returns c = at_end IsReachedEvent c.args.lines.now c.loop-line.line-index (omega (arith, c.loop-line-test.false)) c.loop-line.invariant
