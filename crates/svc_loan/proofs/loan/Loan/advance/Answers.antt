use Rattle.std.proofs.Common.{◌≤◌, ◌<◌, vec_len, refl, arith, sym, ap, subst, ◌∙◌}
use Rattle.svc_base.specs.Calendar.{month_of as month_number, months_end}
use Rattle.svc_spec.specs.Accounts.{Account, IsAccount}
use Rattle.svc_loan.specs.Closed.{MayClose}
use Rattle.svc_loan.specs.Moved.{moved_of}
use Rattle.svc_loan.specs.Kept.{KeptLoan}
use Rattle.svc_loan.proofs.LoanLemmas.{advanced_stays, remade}
use Rattle.svc_loan.proofs.loan.Loan.advance.Goals as goal

pub invariant_of-self : goal.invariant_of-self
invariant_of-self g c =
    let a = g.B.LoanBooks.account c.self.inside.books in
    let is = c.advance_reserved.ensures.account in
    let may = c.self.invariant.may in
    let n = vec_len c.self.inside.carries in
    let later : a.today ≤ c.args.today = subst (λ (v : KeptLoan). v.held.account.today ≤ c.args.today) (sym c.self.view_is) c.requires.later in
    let calendar : month_number c.args.today < months_end = (let last = c.number-month.ensures.end in let m = c.month_of.ensures in omega arith) in
    let ended = may.ended in
    let close = subst (λ (x : Account). MayClose x n) (sym is) (record { account = subst IsAccount is c.is_account.ensures; calendar = calendar; ended = omega arith }) in
    let kept = advanced_stays a (g.B.LoanBooks.account c.advance_reserved.new.books) c.self.inside.types.changes c.args.today n c.self.inside.carries.items later is ended c.self.invariant.kept in
    remade (g.B.LoanBooks.account c.advance_reserved.new.books) c.self.inside.types.changes c.self.inside.moved n n c.self.inside.carries.items close kept refl (c.self.invariant.moved ∙ ap moved_of (sym is))
