use Rattle.std.proofs.Common.{◌≡◌, true, false, refl, sym, ◌∙◌, arith}
use Rattle.std.specs.Prelude.{if◌then◌else◌}
use Rattle.std.proofs.lemmas.Int.{ints, clamps}
use Rattle.svc_spec.specs.Settling.{is_overdue, late_paid, late_taken}
use Rattle.svc_spec.proofs.BooksLemmas.{same_books}
use Rattle.svc_apply.proofs.settle.take_late.Goals as goal

pub returns-then-books-le0 : goal.returns-then-books-le0
unfolding late_taken
returns-then-books-le0 c =
    let t = c.args.terms.now in
    let b = c.args.books.now in
    let low = c.requires.signs.suspense in
    let owed = c.requires.signs.late_owed in
    let none : b ≡ late_paid b = same_books _ _ refl refl refl refl (omega (arith, ints, clamps)) (omega (arith, ints, clamps)) refl refl refl refl (omega (arith, ints, clamps)) refl refl refl in
    elim (is_overdue t c.args.day b) as (λ v. b ≡ (if v then b else late_paid b)) [ true ↦ refl | false ↦ none ]

pub returns-then-is_overdue : goal.returns-then-is_overdue
unfolding late_taken
returns-then-is_overdue c = rw (sym c.is_overdue.ensures ∙ c.if-is_overdue.true)

pub returns : goal.returns
unfolding late_taken
returns c = rw (sym c.is_overdue.ensures ∙ c.if-is_overdue.false) c.pay_late.ensures
