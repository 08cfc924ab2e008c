use Rattle.std.proofs.Common.{◌≡◌, pos, arith, ap, ◌∙◌, FitsSigned, w64}
use Rattle.std.proofs.lemmas.Int.{ints, to_z-of_z}
use Rattle.svc_base.specs.Money.{day_interest}
use Rattle.svc_base.proofs.CentsRules.{int_lt-true, int_lt-false}
use Rattle.svc_spec.specs.Payoff.{payoff_principal}
use Rattle.svc_apply.proofs.payoff.payoff_principal.Goals as goal

pub returns-then-books-le0-clause-value : goal.returns-then-books-le0-clause-value
unfolding payoff_principal
returns-then-books-le0-clause-value c = rw (int_lt-false (pos 0) c.args.books.now.upb (omega (arith, ints)))

pub returns-clause-value : goal.returns-clause-value
unfolding payoff_principal
returns-clause-value c =
    let b = c.args.books.now in
    let t = c.args.terms.now in
    let low = c.requires.signs.upb_low in
    let high = c.requires.signs.upb_high in
    let fits : FitsSigned w64 b.upb = omega (arith, ints) in
    let interest : c.day_interest-interest.result ≡ day_interest b.upb t.rate c.payoff_days.result = simp to_z-of_z at c.day_interest-interest.ensures.value in
    let days = interest ∙ ap (day_interest b.upb t.rate) c.payoff_days.ensures.value in
    rw (int_lt-true (pos 0) b.upb (omega (arith, ints))) (omega (arith, ints))
