use Rattle.std.proofs.Common.{sym, ap, subst, ◌∙◌}
use Rattle.std.specs.Prelude.{◌≤ℤ◌}
use Rattle.svc_types.specs.declared.terms.Terms.{Terms}
use Rattle.svc_spec.specs.Books.{AreBooks}
use Rattle.svc_spec.proofs.AccountLemmas.{account_books}
use Rattle.svc_checkpoint.specs.Plans.{plan_with}
use Rattle.svc_checkpoint.specs.Ends.{books_from}
use Rattle.svc_checkpoint.proofs.EndsLemmas.{end_books}
use Rattle.svc_checkpoint.proofs.ends.books_from.Goals as goal

pub books-requires-clause-low : goal.books-requires-clause-low
books-requires-clause-low c = (end_books c.args.kept.now.account c.args.day c.args.end.now c.is_account.ensures c.requires).signs.upb_low

pub books-requires-clause-high : goal.books-requires-clause-high
books-requires-clause-high c = subst (λ (t : Terms). c.args.end.now.upb ≤ℤ t.principal) (sym c.terms.ensures) (end_books c.args.kept.now.account c.args.day c.args.end.now c.is_account.ensures c.requires).signs.upb_high

pub returns-clause-sound : goal.returns-clause-sound
returns-clause-sound c =
    let a = c.args.kept.now.account in
    let d = c.args.day in
    let e = c.args.end.now in
    let is = c.books.ensures
    ∙ ap (λ t. books_from t d c.plan_with-plan.result c.plan_with-earlier.result e) c.terms.ensures
    ∙ ap (λ p. books_from a.terms d p c.plan_with-earlier.result e) c.plan_with-plan.ensures
    ∙ ap (λ p. books_from a.terms d (plan_with a e.plan) p e) c.plan_with-earlier.ensures
    ∙ c.requires.books in
    subst (AreBooks a.terms) (sym is) (account_books a d c.is_account.ensures)
