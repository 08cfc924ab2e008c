use Rattle.std.proofs.Common.{pos, arith}
use Rattle.std.proofs.lemmas.Int.{ints, clamps}
use Rattle.svc_base.proofs.CentsRules.{int_lt-true, int_lt-false}
use Rattle.svc_spec.specs.Payoff.{available}
use Rattle.svc_apply.proofs.payoff.available.Goals as goal

pub returns-then-books-gt0 : goal.returns-then-books-gt0
unfolding available
returns-then-books-gt0 c = rw (int_lt-true (pos 0) c.args.books.now.upb (omega (arith, ints))) (omega (arith, ints, clamps, c.max.ensures.value))

pub returns : goal.returns
unfolding available
returns c = rw (int_lt-false (pos 0) c.args.books.now.upb (omega (arith, ints))) (omega (arith, ints, clamps, c.max-2.ensures.value))
