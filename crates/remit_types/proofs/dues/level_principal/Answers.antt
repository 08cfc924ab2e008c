use Rattle.std.proofs.Common.{arith}
use Rattle.std.proofs.lemmas.Int.{ints, clamps, to_z-of_z}
use Rattle.remit_types.proofs.DueFields.{level_principal-is}
use Rattle.remit_types.proofs.dues.level_principal.Goals as goal

pub returns-clause-value : goal.returns-clause-value
returns-clause-value c =
    let is = level_principal-is c.args.terms.now c.args.before in
    let fits = c.ranges.before in
    let interest = simp to_z-of_z at c.note_interest.ensures.value in
    omega (arith, ints, clamps)

pub returns-clause-low : goal.returns-clause-low
returns-clause-low c = omega (arith, ints, clamps)
