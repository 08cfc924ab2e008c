use Rattle.std.proofs.Common.{◌≡◌, refl, ap, ◌∙◌, arith, FitsSigned, w64}
use Rattle.std.proofs.lemmas.Int.{ints, to_z-of_z}
use Rattle.svc_spec.proofs.BooksLemmas.{same_books}
use Rattle.svc_base.specs.Money.{day_interest}
use Rattle.svc_spec.specs.Payoff.{payoff_days}
use Rattle.svc_spec.specs.Step.{paid_off}
use Rattle.svc_apply.proofs.acts.pay_off.Goals as goal

pub returns : goal.returns
unfolding paid_off
returns c =
    let b = c.args.books.now in
    let t = c.args.terms.now in
    let fits : FitsSigned w64 b.upb = omega (arith, ints) in
    let interest : c.day_interest-interest.result ≡ day_interest b.upb t.rate c.payoff_days-days.result = simp to_z-of_z at c.day_interest-interest.ensures.value in
    let fee : c.day_interest-fee.result ≡ day_interest b.upb t.fee c.payoff_days-days.result = simp to_z-of_z at c.day_interest-fee.ensures.value in
    let days : c.payoff_days-days.result ≡ payoff_days t c.args.day b = c.payoff_days-days.ensures.value in
    let interest' = interest ∙ ap (day_interest b.upb t.rate) days in
    let fee' = fee ∙ ap (day_interest b.upb t.fee) days in
    same_books _ _ refl refl refl (omega (arith, ints)) (omega (arith, ints)) refl (omega (arith, ints)) (omega (arith, ints)) (omega (arith, ints)) refl (omega (arith, ints)) refl refl refl
