use Rattle.std.proofs.Common.{◌≡◌, refl, arith, FitsSigned, w64}
use Rattle.std.proofs.lemmas.Int.{ints, to_z-of_z}
use Rattle.svc_spec.proofs.BooksLemmas.{same_books}
use Rattle.svc_spec.specs.Step.{refunded, from_suspense}
use Rattle.svc_apply.proofs.acts.refund.Goals as goal

pub returns : goal.returns
unfolding refunded
returns c =
    let fits : FitsSigned w64 c.args.cents = c.ranges.cents in
    let taken : c.from_suspense-taken.result ≡ from_suspense c.args.cents c.args.books.now = simp to_z-of_z at c.from_suspense-taken.ensures.value in
    same_books _ _ refl refl refl (omega (arith, ints)) (omega (arith, ints)) refl refl refl refl refl refl refl refl refl
