use Rattle.std.proofs.Common.{refl, arith}
use Rattle.std.proofs.lemmas.Int.{ints}
use Rattle.svc_spec.proofs.BooksLemmas.{same_books}
use Rattle.svc_spec.specs.Books.{start}
use Rattle.svc_apply.proofs.fold.start.Goals as goal

pub returns-clause-start : goal.returns-clause-start
unfolding start
returns-clause-start c = same_books _ _ refl (omega (arith, ints)) refl refl refl refl refl refl refl refl refl c.boarding_plan.ensures c.boarding_plan-2.ensures refl
