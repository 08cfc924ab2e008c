use Rattle.std.proofs.Common.{refl, arith}
use Rattle.std.proofs.lemmas.Int.{ints}
use Rattle.svc_spec.proofs.BooksLemmas.{same_books}
use Rattle.svc_spec.specs.Step.{to_escrow}
use Rattle.svc_apply.proofs.acts.to_escrow.Goals as goal

pub returns : goal.returns
unfolding to_escrow
returns c = same_books _ _ refl refl refl (omega (arith, ints)) (omega (arith, ints)) refl refl refl refl refl refl refl refl refl
