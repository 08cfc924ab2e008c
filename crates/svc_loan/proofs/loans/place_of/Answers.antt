use Rattle.std.proofs.Common.{◌≡◌, ◌≢◌, get_or, sym, ap, subst, ◌∙◌, arith, Box, Global}
use Rattle.std.specs.Prelude.{Some}
use Rattle.std.proofs.lemmas.List.{length-map, get_or-map}
use Rattle.svc_loan.specs.Kept.{KeptLoan}
use Rattle.svc_loan.proofs.KeptLemmas.{place_found, place_absent, other_number}
use Rattle.svc_loan.proofs.loans.place_of.Goals as goal
use Rattle.svc_loan.proofs.loans.place_of.Goals.{else-place-loans-via-then-place-loans+else-id, else-place-loans-via-else-place-loans}

pub returns-then-id : goal.returns-then-id
returns-then-id g c =
    let xs = c.args.loans.now in
    let i = c.place_for-place.result in
    let x = c.index-loans-place.result in
    let lt = c.if-place-loans.true in
    let v : Box KeptLoan Global → KeptLoan = λ b. b.value in
    let number : (get_or xs i x).value.held.id ≡ c.args.id =
    ap (λ (b : Box KeptLoan Global). b.value.held.id) (sym c.index-loans-place.is) ∙ ap (λ (k : KeptLoan). k.held.id) (sym c.deref.ensures) ∙ sym c.id.ensures ∙ c.if-id.true in
    let found = place_found v xs c.args.id i x c.requires lt number in
    (omega (arith, length-map xs v, lt), λ d. found ∙ ap Some (sym (get_or-map v xs i x d lt)))

pub returns : goal.returns
returns g c =
    let xs = c.args.loans.now in
    let i = c.place_for-place.result in
    let v : Box KeptLoan Global → KeptLoan = λ b. b.value in
    place_absent v xs c.args.id i c.requires c.place_for-place.ensures.point (λ d lt. elim c.else-place-loans.branch [
      | else-place-loans-via-then-place-loans+else-id w ↦
          let x = w.index-loans-place.result in
          let number : w.id.result ≡ (get_or xs i x).value.held.id =
          w.id.ensures ∙ ap (λ (k : KeptLoan). k.held.id) w.deref.ensures ∙ ap (λ (b : Box KeptLoan Global). b.value.held.id) w.index-loans-place.is in
          other_number (λ (b : Box KeptLoan Global). b.value.held.id) xs i c.args.id x d lt (subst (λ m. m ≢ c.args.id) number w.if-id.false)
      | else-place-loans-via-else-place-loans w ↦ absurd (let no = w.if-place-loans.false in omega arith)
    ])
