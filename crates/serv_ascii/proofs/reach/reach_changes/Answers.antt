use Rattle.std.proofs.Common.{arith}
use Rattle.svc_base.specs.Calendar.{IsMonth}
use Rattle.svc_types.specs.declared.requests.TypeChange.{TypeChange}
use Rattle.serv_ascii.proofs.ReachLemmas.{one_more, at_end}
use Rattle.serv_ascii.proofs.reach.reach_changes.Goals as goal

pub loop-change-preserved : goal.loop-change-preserved
loop-change-preserved c =
    one_more (λ (c : TypeChange). IsMonth c.from) c.args.types.now c.loop-change.change-index c.change-item.result c.change-item.result c.change-item.is c.loop-change-test.true c.loop-change.invariant c.reach_month.ensures

pub returns : goal.returns
returns c = at_end (λ (c : TypeChange). IsMonth c.from) c.args.types.now c.loop-change.change-index (omega (arith, c.loop-change-test.false)) c.loop-change.invariant
