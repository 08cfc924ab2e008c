use Rattle.std.proofs.Common.{◌≡◌, ◌≤◌, ◌++◌, ◌∷◌, [], List, FitsSigned, w64, arith, sym, ap, subst, ◌∙◌, append-nil}
use Rattle.std.specs.Prelude.{pos, int_le}
use Rattle.std.proofs.lemmas.Int.{ints, to_z-of_z}
use Rattle.svc_types.specs.declared.terms.Terms.{Terms}
use Rattle.svc_types.specs.declared.books.Books.{Books}
use Rattle.svc_world.specs.declared.desk.LateLoan.{LateLoan}
use Rattle.svc_world.specs.Desk as desk
use Rattle.svc_desk.specs.Counts.{and}
use Rattle.svc_desk.proofs.AgingLemmas.{one_listed, one_passed, one_counted}
use Rattle.svc_desk.proofs.aging.add_loan.Goals as goal

pub returns-in_ok-push-clause-late : goal.returns-in_ok-push-clause-late
returns-in_ok-push-clause-late g c =
    let l = c.args.loan.now.held in
    let day = c.args.today in
    let days : c.late_days-days.result ≡ desk.days_late day l = c.late_days-days.ensures ∙ ap (λ (t : Terms). desk.late_days day t c.now-books.result.now) c.terms.ensures ∙ ap (desk.late_days day l.account.terms) c.now-books.ensures.books in
    let some : 1 ≤ desk.days_late day l = subst (λ n. 1 ≤ n) days (omega arith) in
    c.in_ok-push.ensures.items ∙ ap (λ (xs : List LateLoan). c.args.late.now.items ++ xs) (ap (λ (x : LateLoan). x ∷ []) c.late_loan.ensures.late ∙ sym (one_listed day l some))

pub returns-in_ok-push-clause-counts : goal.returns-in_ok-push-clause-counts
returns-in_ok-push-clause-counts g c =
    let l = c.args.loan.now.held in
    let day = c.args.today in
    let days : c.late_days-days.result ≡ desk.days_late day l = c.late_days-days.ensures ∙ ap (λ (t : Terms). desk.late_days day t c.now-books.result.now) c.terms.ensures ∙ ap (desk.late_days day l.account.terms) c.now-books.ensures.books in
    let fits : FitsSigned w64 c.now-books.result.now.upb = omega (arith, ints) in
    let satisfied = ap (λ z. int_le z (pos 0)) (to_z-of_z w64 c.now-books.result.now.upb fits) ∙ ap (λ (b : Books). int_le b.upb (pos 0)) c.now-books.ensures.books in
    c.count.ensures ∙ ap (and c.args.counts.now) (one_counted day l _ _ satisfied days)

pub returns-else-days-gt0-clause-late : goal.returns-else-days-gt0-clause-late
returns-else-days-gt0-clause-late g c =
    let l = c.args.loan.now.held in
    let day = c.args.today in
    let days : c.late_days-days.result ≡ desk.days_late day l = c.late_days-days.ensures ∙ ap (λ (t : Terms). desk.late_days day t c.now-books.result.now) c.terms.ensures ∙ ap (desk.late_days day l.account.terms) c.now-books.ensures.books in
    let none : desk.days_late day l ≡ 0 = subst (λ n. n ≡ 0) days (omega arith) in
    sym (ap (λ (xs : List LateLoan). c.args.late.now.items ++ xs) (one_passed day l none) ∙ append-nil c.args.late.now.items)

pub returns-else-days-gt0-clause-counts : goal.returns-else-days-gt0-clause-counts
returns-else-days-gt0-clause-counts g c =
    let l = c.args.loan.now.held in
    let day = c.args.today in
    let days : c.late_days-days.result ≡ desk.days_late day l = c.late_days-days.ensures ∙ ap (λ (t : Terms). desk.late_days day t c.now-books.result.now) c.terms.ensures ∙ ap (desk.late_days day l.account.terms) c.now-books.ensures.books in
    let fits : FitsSigned w64 c.now-books.result.now.upb = omega (arith, ints) in
    let satisfied = ap (λ z. int_le z (pos 0)) (to_z-of_z w64 c.now-books.result.now.upb fits) ∙ ap (λ (b : Books). int_le b.upb (pos 0)) c.now-books.ensures.books in
    c.count.ensures ∙ ap (and c.args.counts.now) (one_counted day l _ _ satisfied days)
