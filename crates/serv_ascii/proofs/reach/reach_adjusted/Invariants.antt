use Rattle.std.proofs.Common.{take}
use Rattle.std.specs.List.{All}
use Rattle.svc_base.specs.Calendar.{IsMonth}
use Rattle.period_adjust.specs.declared.adjustment.Adjustment.{Adjustment}
use Rattle.serv_ascii.proofs.reach.reach_adjusted.Given as goal

abbrev pub invariant-loop-adjustment : goal.invariant-loop-adjustment
invariant-loop-adjustment l = All (λ (a : Adjustment). IsMonth a.month) (take l.adjustment-index l.adjustments)
