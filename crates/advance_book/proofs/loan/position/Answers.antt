use Rattle.std.proofs.Common.{arith}
use Rattle.std.proofs.lemmas.Int.{ints, clamps}
use Rattle.advance_book.proofs.loan.position.Goals as goal

pub returns-else-settled-clause-held : goal.returns-else-settled-clause-held
returns-else-settled-clause-held c = rw c.if-settled.false (omega (arith, ints, clamps))

pub returns-else-settled-clause-advanced : goal.returns-else-settled-clause-advanced
returns-else-settled-clause-advanced c = rw c.if-settled.false (omega (arith, ints, clamps))

pub returns-else-settled-clause-balanced : goal.returns-else-settled-clause-balanced
returns-else-settled-clause-balanced c = omega (arith, ints, clamps)
