use Rattle.std.proofs.Common.{arith}
use Rattle.svc_base.specs.Calendar.{IsMonth}
use Rattle.svc_world.specs.declared.desk.LateLoan.{LateLoan}
use Rattle.serv_ascii.proofs.ReachLemmas.{one_more, at_end}
use Rattle.serv_ascii.proofs.reach.reach_late_loans.Goals as goal

pub loop-loan-preserved : goal.loop-loan-preserved
loop-loan-preserved c =
    one_more (λ (l : LateLoan). IsMonth l.next) c.args.late.now c.loop-loan.loan-index c.loan-item.result c.loan-item.result c.loan-item.is c.loop-loan-test.true c.loop-loan.invariant c.reach_month.ensures

pub returns : goal.returns
returns c = at_end (λ (l : LateLoan). IsMonth l.next) c.args.late.now c.loop-loan.loan-index (omega (arith, c.loop-loan-test.false)) c.loop-loan.invariant
