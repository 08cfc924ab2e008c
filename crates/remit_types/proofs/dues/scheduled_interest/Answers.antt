use Rattle.std.proofs.Common.{arith}
use Rattle.std.proofs.lemmas.Int.{ints, to_z-of_z}
use Rattle.remit_types.proofs.Interest.{month_interest-rises_with_rate}
use Rattle.remit_types.proofs.dues.scheduled_interest.Goals as goal

pub returns-then-le-clause-low : goal.returns-then-le-clause-low
returns-then-le-clause-low c =
    let fits = c.ranges.before in
    let note = simp to_z-of_z at c.note_interest.ensures.value in
    let fee = simp to_z-of_z at c.fee_interest.ensures.value in
    omega (arith, ints, month_interest-rises_with_rate c.args.before c.args.terms.now.fee c.args.terms.now.rate c.requires.terms.fee)

pub returns-then-le-clause-high : goal.returns-then-le-clause-high
returns-then-le-clause-high c =
    let fits = c.ranges.before in
    let note = simp to_z-of_z at c.note_interest.ensures.value in
    let fee = simp to_z-of_z at c.fee_interest.ensures.value in
    omega (arith, ints, month_interest-rises_with_rate c.args.before c.args.terms.now.fee c.args.terms.now.rate c.requires.terms.fee)
