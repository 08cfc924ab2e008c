use Rattle.std.proofs.Common.{◌+◌, ◌≤◌, vec_len, arith, sym, ap, subst, ◌∙◌}
use Rattle.svc_base.specs.Calendar.{month_of as month_number}
use Rattle.svc_spec.specs.Accounts.{Account, IsAccount, MayPost}
use Rattle.svc_loan.specs.Closed.{MayClose}
use Rattle.svc_loan.specs.Moved.{moved_of, with_act, AreMoved}
use Rattle.svc_loan.specs.Kept.{KeptLoan}
use Rattle.svc_loan.proofs.MovedLemmas.{moved_small, moved_posted}
use Rattle.svc_loan.proofs.LoanLemmas.{posted_stays, remade}
use Rattle.svc_loan.proofs.loan.Loan.post.Goals as goal

pub with_entry-self-inside-requires-clause-moved : goal.with_entry-self-inside-requires-clause-moved
with_entry-self-inside-requires-clause-moved g c =
    subst AreMoved (sym c.self.invariant.moved) (moved_small (g.B.LoanBooks.account c.self.inside.books) c.is_account.ensures)

pub redo-requires-clause-may : goal.redo-requires-clause-may
redo-requires-clause-may g c =
    let is = c.post_reserved.ensures.account in
    let may = c.self.invariant.may in
    subst (λ (x : Account). MayClose x (vec_len c.self.inside.carries)) (sym is) (record { account = subst IsAccount is c.is_account-2.ensures; calendar = may.calendar; ended = may.ended })

pub redo-requires-clause-stays : goal.redo-requires-clause-stays
redo-requires-clause-stays g c =
    let a = g.B.LoanBooks.account c.self.inside.books in
    let is = c.post_reserved.ensures.account in
    let types = c.self.inside.types.changes in
    let e = c.args.entry.now in
    let may : MayPost a e = subst (λ (v : KeptLoan). MayPost v.held.account e) (sym c.self.view_is) c.requires.entry in
    let since = may.since in
    let stay : month_number a.terms.boarded + c.months_since-stay.result ≤ month_number e.day =
    (let m = c.months_since-stay.ensures in let d = c.month_of.ensures in let same = ap (λ (x : Account). month_number x.terms.boarded) is in omega arith) in
    posted_stays a (g.B.LoanBooks.account c.post_reserved.new.books) types e (vec_len c.self.inside.carries) c.months_since-stay.result c.self.inside.carries.items c.is_account.ensures may is stay c.self.invariant.kept

pub invariant_of-self : goal.invariant_of-self
invariant_of-self g c =
    let a = g.B.LoanBooks.account c.self.inside.books in
    let is = c.post_reserved.ensures.account in
    let e = c.args.entry.now in
    let may = c.self.invariant.may in
    let may_post : MayPost a e = subst (λ (v : KeptLoan). MayPost v.held.account e) (sym c.self.view_is) c.requires.entry in
    let n = vec_len c.self.inside.carries in
    let close = subst (λ (x : Account). MayClose x n) (sym is) (record { account = subst IsAccount is c.is_account-2.ensures; calendar = may.calendar; ended = may.ended }) in
    let moved = c.with_entry-self-inside.ensures ∙ ap (with_act e.act) c.self.invariant.moved ∙ sym (moved_posted a e c.is_account.ensures may_post) ∙ ap moved_of (sym is) in
    remade (g.B.LoanBooks.account c.post_reserved.new.books) c.self.inside.types.changes c.with_entry-self-inside.result n (vec_len c.redo.new.carries) c.redo.new.carries.items close c.redo.ensures.kept c.redo.ensures.count moved
