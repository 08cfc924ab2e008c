use Rattle.std.proofs.Common.{◌≡◌, ◌+◌, ◌≤◌, ◌<◌, get_or, vec_len, arith, sym, ap, subst, ◌∙◌}
use Rattle.svc_base.specs.Calendar.{month_of as month_number}
use Rattle.svc_types.specs.declared.terms.Terms.{Terms}
use Rattle.remit_types.specs.Dues.{carried_first}
use Rattle.svc_world.specs.Held.{boarded_month}
use Rattle.svc_world.specs.LoanDues.{carry_of}
use Rattle.svc_loan.specs.Kept.{KeptLoan}
use Rattle.svc_loan.proofs.ClosedLemmas.{carry_there, carry_early}
use Rattle.svc_loan.proofs.loan.Loan.carry_at.Goals as goal

pub returns-then-number-boarded : goal.returns-then-number-boarded
returns-then-number-boarded g c =
    let a = g.B.LoanBooks.account c.self.inside.books in
    let m = c.args.month in
    let x = c.first.result in
    let start = ap (λ (t : Terms). month_number t.boarded) c.terms-terms.ensures in
    let early : m < month_number a.terms.boarded = (let t = c.if-number-boarded.true in let o = c.month_of.ensures in let i = c.number.ensures.value in let b = c.number-boarded.ensures.value in omega arith) in
    subst (λ (v : KeptLoan). x ≡ carry_of v.held m) c.self.view_is (c.first.ensures.carry ∙ ap carried_first c.terms-terms.ensures ∙ sym (carry_early a c.self.inside.types.changes m early))

pub returns : goal.returns
returns g c =
    let a = g.B.LoanBooks.account c.self.inside.books in
    let cs = c.self.inside.carries.items in
    let n = vec_len c.self.inside.carries in
    let m = c.args.month in
    let x = c.index.result.now in
    let start = ap (λ (t : Terms). month_number t.boarded) c.terms-terms.ensures in
    let from : month_number a.terms.boarded ≤ m = (let t = c.if-number-boarded.false in let o = c.month_of.ensures in let i = c.number.ensures.value in let b = c.number-boarded.ensures.value in omega arith) in
    let closed : m < month_number a.terms.boarded + n = subst (λ (v : KeptLoan). m < boarded_month v.held + v.closed) (sym c.self.view_is) c.requires in
    let there = carry_there a c.self.inside.types.changes cs n m x c.self.invariant.kept from closed in
    subst (λ (v : KeptLoan). x ≡ carry_of v.held m) c.self.view_is (c.index.ensures ∙ ap (λ i. get_or cs i x) c.months_since.ensures ∙ there)
