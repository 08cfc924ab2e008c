use Rattle.std.proofs.Common.{◌≡◌, refl, ap, ◌∙◌}
use Rattle.std.specs.Prelude.{Some}
use Rattle.std.specs.Box.{with_value}
use Rattle.std.proofs.Math.ListN.{set}
use Rattle.svc_loan.specs.Kept.{IsReady}
use Rattle.svc_loan.specs.Loans.{KeptLoans, OfLoan, find_kept}
use Rattle.svc_loan.proofs.KeptLemmas.{Left, behind, lent_found, lent_left, none_changed, of_found, found_of, on_ok}
use Rattle.svc_loan.proofs.loans.Loans.reserve_for.Given.{Over}
use Rattle.svc_loan.proofs.loans.Loans.reserve_for.Goals as goal

left : (g : Over) (c : goal.After-self-2-1 g) → Left c.self.inside.until c.self.inside.closings c.self.inside.first c.args.self.now.loans (behind (set c.self.inside.loans.items c.args.place.index (with_value c.index_mut-loan.result.now c.reserve.new.self))) c.args.place.id c.args.place.index c.deref_mut.result.now c.reserve.new.self (λ l. l)
left g c =
    let e = c.reserve.ensures in
    lent_left _ _ _ _ _ _ _ _ _ _ (λ l. l) (record { number = λ l. refl; boarded = λ l. refl }) c.self.invariant
    (record { all = ap (λ (s : KeptLoans). s.loans) c.self.view_is; place = c.requires.place; pointer = c.index_mut-loan.ensures.value; loan = c.deref_mut.ensures.value })
    (record { held = e.held; closed = e.closed; months = e.months })

pub invariant_of-self : goal.invariant_of-self
invariant_of-self g c = (left g c).kept

pub returns-clause-held : goal.returns-clause-held
returns-clause-held g c = (left g c).held ∙ none_changed c.args.place.id _

pub returns-clause-closed : goal.returns-clause-closed
returns-clause-closed g c = (left g c).closed

pub returns-clause-remitted : goal.returns-clause-remitted
returns-clause-remitted g c = (left g c).remitted c.reserve.ensures.remitted

pub returns-clause-ready : goal.returns-clause-ready
returns-clause-ready g c = on_ok c.reserve.result (IsReady c.args.today c.reserve.new.self) (OfLoan c.args.place.id _ (IsReady c.args.today)) (λ ready. found_of (IsReady c.args.today) c.args.place.id _ c.reserve.new.self ready (left g c).found) c.reserve.ensures.ready

pub returns-clause-succeeds : goal.returns-clause-succeeds
returns-clause-succeeds g c = λ ready.
    let found : find_kept c.args.place.id c.args.self.now.loans ≡ Some c.deref_mut.result.now = lent_found _ _ _ _ _ _ (record { all = ap (λ (s : KeptLoans). s.loans) c.self.view_is; place = c.requires.place; pointer = c.index_mut-loan.ensures.value; loan = c.deref_mut.ensures.value }) in
    c.reserve.ensures.succeeds (of_found (IsReady c.args.today) c.args.place.id c.args.self.now.loans _ ready found)

pub returns-clause-place : goal.returns-clause-place
returns-clause-place g c = (left g c).place
