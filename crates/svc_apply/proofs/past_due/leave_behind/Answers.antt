use Rattle.std.proofs.Common.{refl, arith}
use Rattle.std.proofs.lemmas.Int.{ints}
use Rattle.svc_spec.proofs.BooksLemmas.{same_books}
use Rattle.svc_apply.proofs.past_due.leave_behind.Goals as goal

pub returns : goal.returns
returns c =
    let parts = c.requires.parts in
    same_books _ _ refl (omega (arith, ints)) (omega arith) refl refl refl refl refl refl refl refl refl refl refl
