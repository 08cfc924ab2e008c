use Rattle.std.proofs.Common.{◌≡◌, take}
use Rattle.std.specs.Prelude.{fold}
use Rattle.svc_world.specs.LoanDues.{type_change, counting}
use Rattle.svc_loan.proofs.types.Types.kind_in.Given as goal

abbrev pub invariant-loop-change : goal.invariant-loop-change
invariant-loop-change l = type_change l.from l.kind ≡ fold (counting l.month) (type_change 0 l.terms.kind) (take l.change-index l.self.changes)
