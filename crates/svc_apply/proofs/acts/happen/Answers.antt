use Rattle.std.proofs.Common.{ap, arith}
use Rattle.svc_types.specs.declared.books.Books.{Books}
use Rattle.svc_spec.proofs.NextLemmas.{charged_next}
use Rattle.svc_apply.proofs.acts.happen.Goals as goal

pub returns-in-LateMark-clause-steps : goal.returns-in-LateMark-clause-steps
returns-in-LateMark-clause-steps g c =
    let next = ap (λ (x : Books). x.next) c.charge_late.ensures in
    omega (arith, charged_next)
