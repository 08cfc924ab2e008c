use Rattle.std.proofs.Common.{pos, arith, Some, ap}
use Rattle.std.proofs.lemmas.Int.{ints}
use Rattle.svc_base.proofs.CentsRules.{int_lt-true, int_lt-false}
use Rattle.svc_apply.proofs.installment.open_installment.Goals as goal

pub returns-then-books-le0 : goal.returns-then-books-le0
returns-then-books-le0 c = rw (int_lt-false (pos 0) c.args.books.now.upb (omega (arith, ints)))

pub returns : goal.returns
returns c = rw (int_lt-true (pos 0) c.args.books.now.upb (omega (arith, ints))) (ap Some c.installment.ensures.value)
