use Rattle.std.proofs.Common.{arith}
use Rattle.std.proofs.lemmas.Int.{ints, clamps}
use Rattle.custodial_book.proofs.book.paid_from_t.Goals as goal

pub returns-clause-value : goal.returns-clause-value
returns-clause-value c = omega (arith, ints, clamps, c.sum_of_three-out.ensures, c.sum_of_two-moved.ensures)
