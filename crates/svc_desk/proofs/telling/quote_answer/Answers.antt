use Rattle.std.proofs.Common.{◌≡◌, FitsSigned, w64, to_z, of_z, arith, ap, ◌∙◌}
use Rattle.std.proofs.lemmas.Int.{ints, to_z-of_z}
use Rattle.svc_base.specs.Money.{day_interest}
use Rattle.svc_types.specs.declared.terms.Terms.{Terms}
use Rattle.svc_types.specs.declared.books.Books.{Books}
use Rattle.svc_spec.specs.Payoff.{payoff_due}
use Rattle.svc_world.specs.Desk.{quoted, per_day}
use Rattle.svc_world.specs.declared.answer.Answer.TheVariants as answer
use Rattle.svc_desk.proofs.telling.quote_answer.Goals as goal

pub returns-clause-answer : goal.returns-clause-answer
returns-clause-answer g c =
    let l = c.args.loan.now.held in
    let day = c.args.day in
    let upb : FitsSigned w64 c.books_on_day-books.result.upb = omega (arith, ints) in
    let one : FitsSigned w64 c.payoff_due.result = omega (arith, ints) in
    let two : FitsSigned w64 c.day_interest.result = omega (arith, ints) in
    let interest : c.day_interest.result ≡ day_interest c.books_on_day-books.result.upb c.terms-terms.result.now.rate 1 = simp to_z-of_z at c.day_interest.ensures.value in
    let due : c.payoff_due.result ≡ quoted l day = c.payoff_due.ensures ∙ ap (λ (t : Terms). payoff_due t day c.books_on_day-books.result) c.terms-terms.ensures ∙ ap (payoff_due l.account.terms day) c.books_on_day-books.ensures.books in
    let per : c.day_interest.result ≡ per_day l day = interest ∙ ap (λ (t : Terms). day_interest c.books_on_day-books.result.upb t.rate 1) c.terms-terms.ensures ∙ ap (λ (b : Books). day_interest b.upb l.account.terms.rate 1) c.books_on_day-books.ensures.books in
    let first : to_z w64 (of_z w64 c.payoff_due.result) ≡ quoted l day = to_z-of_z w64 c.payoff_due.result one ∙ due in
    let second : to_z w64 (of_z w64 c.day_interest.result) ≡ per_day l day = to_z-of_z w64 c.day_interest.result two ∙ per in
    ap (λ id. answer.Quote id day (to_z w64 (of_z w64 c.payoff_due.result)) (to_z w64 (of_z w64 c.day_interest.result))) c.id.ensures
    ∙ ap (λ z. answer.Quote l.id day z (to_z w64 (of_z w64 c.day_interest.result))) first
    ∙ ap (λ z. answer.Quote l.id day (quoted l day) z) second
