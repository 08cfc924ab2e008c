use Rattle.std.proofs.Common.{pos, refl, arith, FitsSigned, w64}
use Rattle.std.proofs.lemmas.Int.{ints, to_z-of_z}
use Rattle.svc_base.proofs.CentsRules.{int_lt-true, int_lt-false}
use Rattle.svc_spec.proofs.BooksLemmas.{same_books}
use Rattle.svc_spec.specs.Step.{deposited}
use Rattle.svc_apply.proofs.acts.deposit.Goals as goal

pub returns : goal.returns
unfolding deposited
returns c = rw (int_lt-true (pos 0) c.args.books.now.upb (omega (arith, ints))) (same_books _ _ refl refl refl (omega (arith, ints)) refl refl refl refl refl refl refl refl refl refl)

pub returns-then-books-le0 : goal.returns-then-books-le0
unfolding deposited
returns-then-books-le0 c =
    let fits : FitsSigned w64 c.args.cents = c.ranges.cents in
    let paid = c.pay_in.ensures.books in
    rw (int_lt-false (pos 0) c.args.books.now.upb (omega (arith, ints))) (simp to_z-of_z at paid)
