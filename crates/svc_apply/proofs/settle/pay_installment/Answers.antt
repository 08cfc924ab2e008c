use Rattle.std.proofs.Common.{refl, arith}
use Rattle.std.proofs.lemmas.Int.{ints}
use Rattle.svc_spec.proofs.BooksLemmas.{same_books}
use Rattle.svc_apply.proofs.settle.pay_installment.Goals as goal

pub returns : goal.returns
returns c =
    let parts = c.requires.parts in
    let sums = c.requires.sums in
    same_books _ _ refl (omega (arith, ints)) (omega arith) (omega (arith, ints)) (omega (arith, ints)) refl (omega (arith, ints)) (omega (arith, ints)) (omega (arith, ints)) refl refl refl refl refl

pub overflow_sub-books : goal.overflow_sub-books
overflow_sub-books c = omega (arith, ints)

pub overflow_add-books-4 : goal.overflow_add-books-4
overflow_add-books-4 c = omega (arith, ints)

pub overflow_sub-books-2 : goal.overflow_sub-books-2
overflow_sub-books-2 c = omega (arith, ints)
