use Rattle.std.proofs.Common.{◌≡◌, ◌+◌, ◌≤◌, vec_len, arith, sym, ap, subst, ◌∙◌}
use Rattle.std.specs.Prelude.{Some, None}
use Rattle.svc_base.specs.Calendar.{month_of as month_number}
use Rattle.svc_spec.specs.Accounts.{Account, IsAccount, entry_of, reverser_of}
use Rattle.svc_loan.specs.Closed.{MayClose}
use Rattle.svc_loan.specs.Moved.{moved_of, with_reversed, AreMoved}
use Rattle.svc_loan.specs.Kept.{KeptLoan}
use Rattle.svc_loan.proofs.MovedLemmas.{moved_small, moved_reversed}
use Rattle.svc_loan.proofs.LoanLemmas.{reversed_stays, remade}
use Rattle.svc_loan.proofs.loan.Loan.reverse.Goals as goal

pub with_reversal-self-inside-requires-clause-moved : goal.with_reversal-self-inside-requires-clause-moved
with_reversal-self-inside-requires-clause-moved g c =
    subst AreMoved (sym c.self.invariant.moved) (moved_small (g.B.LoanBooks.account c.self.inside.books) c.is_account.ensures)

pub redo-requires-clause-stays : goal.redo-requires-clause-stays
redo-requires-clause-stays g c =
    let a = g.B.LoanBooks.account c.self.inside.books in
    let is = c.reverse_reserved.ensures.account in
    let types = c.self.inside.types.changes in
    let e = c.args.entry.now in
    let found : entry_of a e.number ≡ Some e = subst (λ (v : KeptLoan). entry_of v.held.account e.number ≡ Some e) (sym c.self.view_is) c.requires.entry in
    let since = c.reverse_reserved.ensures.since in
    let stay : month_number a.terms.boarded + c.months_since-stay.result ≤ month_number e.day =
    (let m = c.months_since-stay.ensures in let d = c.month_of.ensures in let same = ap (λ (x : Account). month_number x.terms.boarded) is in omega arith) in
    reversed_stays a (g.B.LoanBooks.account c.reverse_reserved.new.books) types e.number c.args.by e (vec_len c.self.inside.carries) c.months_since-stay.result c.self.inside.carries.items c.is_account.ensures found is stay c.self.invariant.kept

pub invariant_of-self : goal.invariant_of-self
invariant_of-self g c =
    let a = g.B.LoanBooks.account c.self.inside.books in
    let is = c.reverse_reserved.ensures.account in
    let e = c.args.entry.now in
    let may = c.self.invariant.may in
    let found : entry_of a e.number ≡ Some e = subst (λ (v : KeptLoan). entry_of v.held.account e.number ≡ Some e) (sym c.self.view_is) c.requires.entry in
    let none : reverser_of a e.number ≡ None = subst (λ (v : KeptLoan). reverser_of v.held.account e.number ≡ None) (sym c.self.view_is) c.requires.live in
    let n = vec_len c.self.inside.carries in
    let close = subst (λ (x : Account). MayClose x n) (sym is) (record { account = subst IsAccount is c.is_account-2.ensures; calendar = may.calendar; ended = may.ended }) in
    let moved = c.with_reversal-self-inside.ensures ∙ ap (with_reversed e.act) c.self.invariant.moved ∙ sym (moved_reversed a e.number c.args.by e c.is_account.ensures found none) ∙ ap moved_of (sym is) in
    remade (g.B.LoanBooks.account c.reverse_reserved.new.books) c.self.inside.types.changes c.with_reversal-self-inside.result n (vec_len c.redo.new.carries) c.redo.new.carries.items close c.redo.ensures.kept c.redo.ensures.count moved
