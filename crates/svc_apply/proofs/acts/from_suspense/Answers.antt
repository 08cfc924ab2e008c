use Rattle.std.proofs.Common.{pos, arith}
use Rattle.std.proofs.lemmas.Int.{ints, clamps}
use Rattle.svc_base.proofs.CentsRules.{int_lt-true, int_lt-false}
use Rattle.svc_spec.specs.Step.{from_suspense}
use Rattle.svc_apply.proofs.acts.from_suspense.Goals as goal

pub returns-then-books-gt0-clause-value : goal.returns-then-books-gt0-clause-value
unfolding from_suspense
returns-then-books-gt0-clause-value c = rw (int_lt-true (pos 0) c.args.books.now.upb (omega (arith, ints)))

pub returns-clause-value : goal.returns-clause-value
unfolding from_suspense
returns-clause-value c = rw (int_lt-false (pos 0) c.args.books.now.upb (omega (arith, ints))) (omega (arith, ints, clamps, c.min.ensures.value))
