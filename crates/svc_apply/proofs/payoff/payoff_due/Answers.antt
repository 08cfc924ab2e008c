use Rattle.std.proofs.Common.{arith}
use Rattle.std.proofs.lemmas.Int.{ints, clamps}
use Rattle.svc_apply.proofs.payoff.payoff_due.Goals as goal

pub returns : goal.returns
returns c = omega (arith, ints, clamps, c.max.ensures.value)
