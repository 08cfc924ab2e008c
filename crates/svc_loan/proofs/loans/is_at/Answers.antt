use Rattle.std.proofs.Common.{◌≡◌, get_or, sym, ap, ◌∙◌, arith, rules, Box, Global}
use Rattle.std.specs.Prelude.{Some}
use Rattle.std.proofs.lemmas.List.{length-map, get_or-map}
use Rattle.svc_loan.specs.Kept.{KeptLoan}
use Rattle.svc_loan.proofs.KeptLemmas.{place_found}
use Rattle.svc_loan.proofs.loans.is_at.Goals as goal

pub returns-then-place-loans : goal.returns-then-place-loans
returns-then-place-loans g c is =
    let xs = c.args.loans.now in
    let i = c.args.place in
    let x = c.index-loans-place.result in
    let lt = c.if-place-loans.true in
    let v : Box KeptLoan Global → KeptLoan = λ b. b.value in
    let same : c.id.result ≡ c.args.id = search rules in
    let number : (get_or xs i x).value.held.id ≡ c.args.id =
    ap (λ (b : Box KeptLoan Global). b.value.held.id) (sym c.index-loans-place.is) ∙ ap (λ (k : KeptLoan). k.held.id) (sym c.deref.ensures) ∙ sym c.id.ensures ∙ same in
    let found = place_found v xs c.args.id i x c.requires lt number in
    (omega (arith, length-map xs v, lt), λ d. found ∙ ap Some (sym (get_or-map v xs i x d lt)))
