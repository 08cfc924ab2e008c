use Rattle.std.proofs.Common.{arith, refl}
use Rattle.svc_base.proofs.CentsRules.{cents}
use Rattle.svc_loan.proofs.MovedLemmas.{same_moved}
use Rattle.svc_loan.proofs.moved.Moved.with_reversal.Goals as goal

pub returns : goal.returns
returns c = same_moved refl (grind (arith, cents)) (grind (arith, cents)) (grind (arith, cents)) (grind (arith, cents))
