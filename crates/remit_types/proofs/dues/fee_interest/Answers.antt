use Rattle.std.proofs.Common.{arith}
use Rattle.std.proofs.lemmas.Int.{ints, to_z-of_z}
use Rattle.remit_types.proofs.Interest.{month_interest-low}
use Rattle.remit_types.proofs.dues.fee_interest.Goals as goal

pub returns-clause-low : goal.returns-clause-low
returns-clause-low c =
    let fits = c.ranges.balance in
    let value = simp to_z-of_z at c.month_interest.ensures in
    omega (arith, ints, month_interest-low c.args.balance c.args.terms.now.fee)
