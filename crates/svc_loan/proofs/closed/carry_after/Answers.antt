use Rattle.std.proofs.Common.{arith, sym, ap, ◌∙◌}
use Rattle.remit_types.specs.Dues.{carried_first}
use Rattle.svc_world.specs.LoanDues.{carried_to}
use Rattle.svc_world.proofs.CarryLemmas.{carried_none}
use Rattle.svc_loan.proofs.ClosedLemmas.{carried_there}
use Rattle.svc_loan.proofs.closed.carry_after.Goals as goal

pub returns-then-months-eq0 : goal.returns-then-months-eq0
returns-then-months-eq0 g c =
    let a = g.B.LoanBooks.account c.args.books.now in
    let types = c.args.types.now.changes in
    c.first.ensures.carry ∙ ap carried_first c.terms.ensures ∙ sym (carried_none a types) ∙ ap (carried_to a types) (sym c.if-months-eq0.true)

pub returns : goal.returns
returns g c =
    let some = c.if-months-eq0.false in
    carried_there (g.B.LoanBooks.account c.args.books.now) c.args.types.now.changes c.args.carries.now c.args.months _ c.requires.carries (omega (arith, some)) c.requires.closed
