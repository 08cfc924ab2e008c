use Rattle.std.proofs.Common.{arith}
use Rattle.std.proofs.lemmas.Int.{ints, clamps}
use Rattle.custodial_book.proofs.book.cash_of_p.Goals as goal

pub returns-clause-value : goal.returns-clause-value
returns-clause-value c = omega (arith, ints, clamps, c.sum_of_two-came.ensures, c.sum_of_three-paid.ensures)

pub returns-clause-bound : goal.returns-clause-bound
returns-clause-bound c =
    let came = c.sum_of_two-came.ensures in
    let paid = c.sum_of_three-paid.ensures in
    (omega (arith, ints, clamps, came, paid), omega (arith, ints, clamps, came, paid))
