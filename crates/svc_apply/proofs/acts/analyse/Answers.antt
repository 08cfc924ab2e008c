use Rattle.std.proofs.Common.{refl, arith}
use Rattle.std.proofs.lemmas.Int.{ints}
use Rattle.svc_spec.proofs.BooksLemmas.{same_books}
use Rattle.svc_spec.specs.Step.{analysed}
use Rattle.svc_apply.proofs.acts.analyse.Goals as goal

pub returns : goal.returns
unfolding analysed
returns c = same_books _ _ refl refl refl (omega (arith, ints)) refl refl refl refl refl refl refl refl c.plan_before-earlier.ensures refl
