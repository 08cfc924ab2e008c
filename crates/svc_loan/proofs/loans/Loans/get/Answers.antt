use Rattle.std.proofs.Common.{◌≡◌, ◌<◌, length, map, get_or, sym, ap, subst, ◌∙◌, arith, Box, Global}
use Rattle.std.specs.Prelude.{Some}
use Rattle.std.proofs.lemmas.List.{get_or-map, length-map}
use Rattle.svc_loan.specs.Kept.{KeptLoan}
use Rattle.svc_loan.specs.Loans.{KeptLoans, find_kept}
use Rattle.svc_loan.proofs.loans.Loans.get.Goals as goal

pub returns : goal.returns
returns g c =
    let xs = c.self.inside.loans.items in
    let i = c.in_ok-place.place in
    let v : Box KeptLoan Global → KeptLoan = λ b. b.value in
    let x = c.index.result.now in
    let k = c.deref-2.result.now in
    let found = c.in_ok-place.ensures in
    let bound = found.0 in
    let at : find_kept c.args.id (map v xs) ≡ Some (get_or (map v xs) i k) = subst (λ ys. find_kept c.args.id (map v ys) ≡ Some (get_or (map v ys) i k)) c.deref.ensures.value (found.1 k) in
    let lt : i < length xs = (let e = ap length c.deref.ensures.value in omega (arith, length-map c.deref.result.now v)) in
    let value : get_or (map v xs) i k ≡ k = get_or-map v xs i x k lt ∙ ap v (sym c.index.ensures) ∙ sym c.deref-2.ensures in
    subst (λ (s : KeptLoans). Some k ≡ find_kept c.args.id s.loans) c.self.view_is (sym (at ∙ ap Some value))
