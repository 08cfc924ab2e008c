use Rattle.std.proofs.Common.{arith}
use Rattle.std.proofs.lemmas.Int.{ints, clamps, to_z-of_z}
use Rattle.remit_types.proofs.DueFields.{scheduled_balance-is}
use Rattle.remit_types.proofs.dues.scheduled_balance.Goals as goal

pub returns-clause-value : goal.returns-clause-value
returns-clause-value c =
    let is = scheduled_balance-is c.args.terms.now c.args.before c.args.facts.now in
    let fits = c.ranges.before in
    let scheduled = simp to_z-of_z at c.scheduled_principal-scheduled.ensures.value in
    omega (arith, ints, clamps)

pub returns-clause-high : goal.returns-clause-high
returns-clause-high c = omega (arith, ints, clamps)
