use Rattle.std.proofs.Common.{◌+◌, ◌≤◌, vec_len, arith, sym, subst}
use Rattle.svc_base.specs.Calendar.{month_of as month_number}
use Rattle.svc_loan.specs.Kept.{KeptLoan}
use Rattle.svc_world.specs.LoanDues.{type_change}
use Rattle.svc_loan.proofs.LoanLemmas.{retyped_stays}
use Rattle.svc_loan.proofs.loan.Loan.retype.Goals as goal

pub redo-requires-clause-stays : goal.redo-requires-clause-stays
redo-requires-clause-stays g c =
    let a = g.B.LoanBooks.account c.self.inside.books in
    let from : month_number a.terms.boarded ≤ c.args.from = subst (λ (v : KeptLoan). month_number v.held.account.terms.boarded ≤ c.args.from) (sym c.self.view_is) c.requires.from in
    let stay : month_number a.terms.boarded + c.months_since-stay.result ≤ c.args.from = (let m = c.months_since-stay.ensures in omega arith) in
    let cs = c.self.inside.carries.items in
    let n = vec_len c.self.inside.carries in
    rw c.add.ensures.changes (retyped_stays a c.self.inside.types.changes (type_change c.args.from c.args.kind) n c.months_since-stay.result cs stay c.self.invariant.kept)
