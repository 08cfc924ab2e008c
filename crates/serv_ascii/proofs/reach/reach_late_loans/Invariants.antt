use Rattle.std.proofs.Common.{take}
use Rattle.std.specs.List.{All}
use Rattle.svc_base.specs.Calendar.{IsMonth}
use Rattle.svc_world.specs.declared.desk.LateLoan.{LateLoan}
use Rattle.serv_ascii.proofs.reach.reach_late_loans.Given as goal

abbrev pub invariant-loop-loan : goal.invariant-loop-loan
invariant-loop-loan l = All (λ (late : LateLoan). IsMonth late.next) (take l.loan-index l.late)
