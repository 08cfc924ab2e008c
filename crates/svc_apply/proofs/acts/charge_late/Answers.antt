use Rattle.std.proofs.Common.{◌≡◌, pos, refl, ◌∙◌, arith, FitsSigned, w64}
use Rattle.std.proofs.lemmas.Int.{ints, to_z-of_z}
use Rattle.svc_base.proofs.CentsRules.{int_lt-true, int_lt-false}
use Rattle.svc_spec.proofs.BooksLemmas.{same_books}
use Rattle.svc_base.specs.Money.{share_bp}
use Rattle.svc_base.proofs.MoneyLemmas.{month_interest_low}
use Rattle.svc_spec.proofs.SettlingLemmas.{nat_le-true, nat_le-false}
use Rattle.svc_spec.specs.Step.{charged}
use Rattle.svc_apply.proofs.acts.charge_late.Goals as goal

pub share_bp-requires-clause-amount : goal.share_bp-requires-clause-amount
share_bp-requires-clause-amount c =
    let low = month_interest_low c.args.terms.now.principal c.args.terms.now.rate in
    (omega (arith, ints), omega (arith, ints))

pub returns-then-books-le0 : goal.returns-then-books-le0
unfolding charged
returns-then-books-le0 c = rw (int_lt-false (pos 0) c.args.books.now.upb (omega (arith, ints)))

pub returns-then-books-k : goal.returns-then-books-k
unfolding charged
returns-then-books-k c = rw (int_lt-true (pos 0) c.args.books.now.upb (omega (arith, ints)), nat_le-false c.args.books.now.next c.args.k (omega arith))

pub returns : goal.returns
unfolding charged
returns c =
    let fits : FitsSigned w64 c.args.terms.now.pi = let low = month_interest_low c.args.terms.now.principal c.args.terms.now.rate in omega (arith, ints) in
    let share : c.share_bp.result ≡ share_bp c.args.terms.now.pi c.args.terms.now.late = simp to_z-of_z at c.share_bp.ensures.value in
    rw (int_lt-true (pos 0) c.args.books.now.upb (omega (arith, ints)), nat_le-true c.args.books.now.next c.args.k (omega arith))
    (c.add_late.ensures ∙ same_books _ _ refl refl refl refl refl (omega (arith, ints)) refl refl refl refl refl refl refl refl)
