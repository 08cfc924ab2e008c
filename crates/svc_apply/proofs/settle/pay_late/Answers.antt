use Rattle.std.proofs.Common.{refl, arith}
use Rattle.std.proofs.lemmas.Int.{ints, clamps}
use Rattle.svc_spec.proofs.BooksLemmas.{same_books}
use Rattle.svc_apply.proofs.settle.pay_late.Goals as goal

pub returns : goal.returns
returns c = same_books _ _ refl refl refl refl (omega (arith, ints, clamps)) (omega (arith, ints, clamps)) refl refl refl refl (omega (arith, ints, clamps)) refl refl refl

pub overflow_sub-books : goal.overflow_sub-books
overflow_sub-books c = omega (arith, ints, clamps)

pub overflow_sub-books-2 : goal.overflow_sub-books-2
overflow_sub-books-2 c = omega (arith, ints, clamps)

pub overflow_add-books : goal.overflow_add-books
overflow_add-books c = omega (arith, ints, clamps)
