use Rattle.std.proofs.Common.{refl, arith}
use Rattle.std.proofs.lemmas.Int.{ints, clamps}
use Rattle.svc_spec.proofs.BooksLemmas.{same_books}
use Rattle.svc_spec.specs.Step.{to_principal}
use Rattle.svc_apply.proofs.acts.to_principal.Goals as goal

pub overflow_sub-books : goal.overflow_sub-books
overflow_sub-books c = let h = c.requires in omega (arith, ints, clamps, c.min-paid.ensures.value)

pub overflow_sub-books-2 : goal.overflow_sub-books-2
overflow_sub-books-2 c = let h = c.requires in omega (arith, ints, clamps, c.min-paid.ensures.value)

pub overflow_add-books : goal.overflow_add-books
overflow_add-books c = let h = c.requires in omega (arith, ints, clamps, c.min-paid.ensures.value)

pub overflow_add-books-2 : goal.overflow_add-books-2
overflow_add-books-2 c = let h = c.requires in omega (arith, ints, clamps, c.min-paid.ensures.value)

pub returns : goal.returns
unfolding to_principal
returns c =
    let h = c.requires in
    let paid = c.min-paid.ensures.value in
    same_books _ _ refl (omega (arith, ints, clamps, paid)) refl refl (omega (arith, ints, clamps, paid)) refl refl refl (omega (arith, ints, clamps, paid)) (omega (arith, ints, clamps, paid)) refl refl refl refl
