use Rattle.std.proofs.Common.{ap, arith}
use Rattle.svc_types.specs.declared.books.Books.{Books}
use Rattle.svc_spec.specs.Settling.{settled_by}
use Rattle.svc_spec.proofs.SettledLemmas.{settled_next}
use Rattle.svc_apply.proofs.settle.settle.Goals as goal

pub returns-clause-books : goal.returns-clause-books
unfolding settled_by
returns-clause-books g c = cc

pub returns-clause-steps : goal.returns-clause-steps
returns-clause-steps g c =
    let next = ap (λ (x : Books). x.next) (returns-clause-books g c) in
    omega (arith, settled_next c.args.terms.now c.args.by c.args.day c.args.books.now)
