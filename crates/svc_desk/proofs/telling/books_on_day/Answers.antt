use Rattle.std.proofs.Common.{◌∙◌, arith}
use Rattle.std.proofs.lemmas.Bool.Decides.{nat_tests}
use Rattle.svc_desk.proofs.TellingLemmas.{on_or_before, after_today}
use Rattle.svc_desk.proofs.telling.books_on_day.Goals as goal

pub returns-then-le-clause-books : goal.returns-then-le-clause-books
returns-then-le-clause-books g c = c.books_at.ensures.books ∙ on_or_before c.args.loan.now.held c.args.day c.args.today c.requires.today (grind (arith, nat_tests))

pub returns-else-le-clause-books : goal.returns-else-le-clause-books
returns-else-le-clause-books g c = c.books_ahead.ensures.books ∙ after_today c.args.loan.now.held c.args.day c.args.today c.requires.today (grind (arith, nat_tests))
