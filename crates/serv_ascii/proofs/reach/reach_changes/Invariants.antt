use Rattle.std.proofs.Common.{take}
use Rattle.std.specs.List.{All}
use Rattle.svc_base.specs.Calendar.{IsMonth}
use Rattle.svc_types.specs.declared.requests.TypeChange.{TypeChange}
use Rattle.serv_ascii.proofs.reach.reach_changes.Given as goal

abbrev pub invariant-loop-change : goal.invariant-loop-change
invariant-loop-change l = All (λ (c : TypeChange). IsMonth c.from) (take l.change-index l.types)
