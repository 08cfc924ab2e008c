use Rattle.std.proofs.Common.{◌≡◌, FitsSigned, w64, refl, ap, subst, ◌∙◌}
use Rattle.std.specs.Prelude.{Some}
use Rattle.std.proofs.lemmas.Int.{to_z-of_z}
use Rattle.std.specs.Box.{with_value}
use Rattle.std.proofs.Math.ListN.{set}
use Rattle.svc_loan.specs.Loans.{KeptLoans, IsPlaceIn, find_kept}
use Rattle.svc_loan.proofs.KeptLemmas.{Left, behind, lent_found, lent_left, none_changed, of_found}
use Rattle.svc_loan.proofs.loans.Loans.remit.Given.{Over}
use Rattle.svc_loan.proofs.loans.Loans.remit.Goals as goal

found : (g : Over) (c : goal.After-deref_mut g) → find_kept c.args.id c.args.self.now.loans ≡ Some c.deref_mut.result.now
found g c =
    let loans = ap (λ (s : KeptLoans). s.loans) c.self.view_is in
    let place = subst (λ ks. IsPlaceIn c.args.id ks (Some c.place_there-place.result)) (ap behind c.deref.ensures.value ∙ loans) c.place_there-place.ensures in
    lent_found _ _ _ _ _ _ (record { all = loans; place = place; pointer = c.index_mut-loan.ensures.value; loan = c.deref_mut.ensures.value })

pub remit-requires-clause-low : goal.remit-requires-clause-low
remit-requires-clause-low g c = let fits : FitsSigned w64 c.args.cents = c.ranges.cents in simp to_z-of_z (of_found _ c.args.id c.args.self.now.loans _ c.requires.low (found g c))

pub remit-requires-clause-high : goal.remit-requires-clause-high
remit-requires-clause-high g c = let fits : FitsSigned w64 c.args.cents = c.ranges.cents in simp to_z-of_z (of_found _ c.args.id c.args.self.now.loans _ c.requires.high (found g c))

left : (g : Over) (c : goal.After-self-2-1 g) → Left c.self.inside.until c.self.inside.closings c.self.inside.first c.args.self.now.loans (behind (set c.self.inside.loans.items c.place_there-place.result (with_value c.index_mut-loan.result.now c.remit.new.self))) c.args.id c.place_there-place.result c.deref_mut.result.now c.remit.new.self (λ l. l)
left g c =
    let e = c.remit.ensures in
    let loans = ap (λ (s : KeptLoans). s.loans) c.self.view_is in
    let place = subst (λ ks. IsPlaceIn c.args.id ks (Some c.place_there-place.result)) (ap behind c.deref.ensures.value ∙ loans) c.place_there-place.ensures in
    lent_left _ _ _ _ _ _ _ _ _ _ (λ l. l) (record { number = λ l. refl; boarded = λ l. refl }) c.self.invariant
    (record { all = loans; place = place; pointer = c.index_mut-loan.ensures.value; loan = c.deref_mut.ensures.value })
    (record { held = e.held; closed = e.closed; months = e.months })

pub invariant_of-self : goal.invariant_of-self
invariant_of-self g c = (left g c).kept

pub returns-clause-held : goal.returns-clause-held
returns-clause-held g c = (left g c).held ∙ none_changed c.args.id _

pub returns-clause-closed : goal.returns-clause-closed
returns-clause-closed g c = (left g c).closed

pub returns-clause-remitted : goal.returns-clause-remitted
returns-clause-remitted g c =
    let fits : FitsSigned w64 c.args.cents = c.ranges.cents in
    let new = simp to_z-of_z at c.remit.ensures.remitted in
    (left g c).remits c.args.cents new
