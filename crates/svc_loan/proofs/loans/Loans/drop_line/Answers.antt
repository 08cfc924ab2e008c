use Rattle.std.proofs.Common.{◌≡◌, refl, ap}
use Rattle.std.specs.Prelude.{Some}
use Rattle.std.specs.Box.{with_value}
use Rattle.std.proofs.Math.ListN.{set}
use Rattle.svc_world.specs.Held.{without_bill}
use Rattle.svc_loan.specs.Loans.{KeptLoans, find_kept}
use Rattle.svc_loan.proofs.KeptLemmas.{Left, behind, lent_found, lent_left, of_found}
use Rattle.svc_loan.proofs.loans.Loans.drop_line.Given.{Over}
use Rattle.svc_loan.proofs.loans.Loans.drop_line.Goals as goal

found : (g : Over) (c : goal.After-deref_mut g) → find_kept c.args.place.id c.args.self.now.loans ≡ Some c.deref_mut.result.now
found g c = lent_found _ _ _ _ _ _ (record { all = ap (λ (s : KeptLoans). s.loans) c.self.view_is; place = c.requires.place; pointer = c.index_mut-loan.ensures.value; loan = c.deref_mut.ensures.value })

pub drop_line-requires : goal.drop_line-requires
drop_line-requires g c = of_found _ c.args.place.id c.args.self.now.loans _ c.requires.line (found g c)

left : (g : Over) (c : goal.After-self-1 g) → Left c.self.inside.until c.self.inside.closings c.self.inside.first c.args.self.now.loans (behind (set c.self.inside.loans.items c.args.place.index (with_value c.index_mut-loan.result.now c.drop_line.new.self))) c.args.place.id c.args.place.index c.deref_mut.result.now c.drop_line.new.self (without_bill c.args.line)
left g c =
    let e = c.drop_line.ensures in
    lent_left _ _ _ _ _ _ _ _ _ _ (without_bill c.args.line) (record { number = λ l. refl; boarded = λ l. refl }) c.self.invariant
    (record { all = ap (λ (s : KeptLoans). s.loans) c.self.view_is; place = c.requires.place; pointer = c.index_mut-loan.ensures.value; loan = c.deref_mut.ensures.value })
    (record { held = e.held; closed = e.closed; months = e.months })

pub invariant_of-self : goal.invariant_of-self
invariant_of-self g c = (left g c).kept

pub returns-clause-held : goal.returns-clause-held
returns-clause-held g c = (left g c).held

pub returns-clause-closed : goal.returns-clause-closed
returns-clause-closed g c = (left g c).closed

pub returns-clause-remitted : goal.returns-clause-remitted
returns-clause-remitted g c = (left g c).remitted c.drop_line.ensures.remitted

pub returns-clause-place : goal.returns-clause-place
returns-clause-place g c = (left g c).place
