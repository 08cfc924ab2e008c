use Rattle.std.proofs.Common.{◌+◌, arith, ap, ◌∙◌}
use Rattle.remit_types.specs.Dues.{due_between}
use Rattle.svc_world.specs.LoanDues.{carried_to}
use Rattle.svc_loan.proofs.ClosedLemmas.{carried_small, due_is}
use Rattle.svc_loan.proofs.closed.due_after.Goals as goal

pub due_between-requires-clause-before : goal.due_between-requires-clause-before
due_between-requires-clause-before g c =
    rw c.carry_after-before.ensures (carried_small (g.B.LoanBooks.account c.args.books.now) c.args.types.now.changes c.args.months _ c.requires.may (omega (arith, c.requires.closed)))

pub due_between-requires-clause-later : goal.due_between-requires-clause-later
due_between-requires-clause-later g c =
    rw c.carry_after-later.ensures (carried_small (g.B.LoanBooks.account c.args.books.now) c.args.types.now.changes (c.args.months + 1) _ c.requires.may (omega (arith, c.requires.closed)))

pub returns : goal.returns
returns g c =
    c.due_between.ensures
    ∙ ap (λ x. due_between c.args.month x c.carry_after-later.result) c.carry_after-before.ensures
    ∙ ap (λ x. due_between c.args.month (carried_to (g.B.LoanBooks.account c.args.books.now) c.args.types.now.changes c.args.months) x) c.carry_after-later.ensures
    ∙ due_is (g.B.LoanBooks.account c.args.books.now) c.args.types.now.changes c.args.months c.args.month c.requires.may.account c.requires.month
