use Rattle.std.proofs.Common.{◌≡◌, ◌+◌, ◌≤◌, refl, ap}
use Rattle.std.specs.Prelude.{Some}
use Rattle.std.specs.Box.{with_value}
use Rattle.std.proofs.Math.ListN.{set}
use Rattle.svc_base.specs.Calendar.{month_of as month_number}
use Rattle.svc_world.specs.Held.{with_reversal}
use Rattle.svc_loan.specs.Closed.{closed_cost}
use Rattle.svc_loan.specs.Kept.{KeptLoan}
use Rattle.svc_loan.specs.Loans.{KeptLoans, find_kept}
use Rattle.svc_loan.proofs.KeptLemmas.{Left, behind, lent_found, lent_left, of_found, found_of}
use Rattle.svc_loan.proofs.loans.Loans.reverse.Given.{Over}
use Rattle.svc_loan.proofs.loans.Loans.reverse.Goals as goal

found : (g : Over) (c : goal.After-reverse-arg-1 g) → find_kept c.args.place.id c.args.self.now.loans ≡ Some c.deref_mut.result.now
found g c = lent_found _ _ _ _ _ _ (record { all = ap (λ (s : KeptLoans). s.loans) c.self.view_is; place = c.requires.place; pointer = c.index_mut-loan.ensures.value; loan = c.deref_mut.ensures.value })

pub reverse-requires-clause-entry : goal.reverse-requires-clause-entry
reverse-requires-clause-entry g c = of_found _ c.args.place.id c.args.self.now.loans _ c.requires.entry (found g c)

pub reverse-requires-clause-live : goal.reverse-requires-clause-live
reverse-requires-clause-live g c = of_found _ c.args.place.id c.args.self.now.loans _ c.requires.live (found g c)

pub reverse-requires-clause-room : goal.reverse-requires-clause-room
reverse-requires-clause-room g c = of_found _ c.args.place.id c.args.self.now.loans _ c.requires.room (found g c)

left : (g : Over) (c : goal.After-self-1 g) → Left c.self.inside.until c.self.inside.closings c.self.inside.first c.args.self.now.loans (behind (set c.self.inside.loans.items c.args.place.index (with_value c.index_mut-loan.result.now c.reverse.new.self))) c.args.place.id c.args.place.index c.deref_mut.result.now c.reverse.new.self (with_reversal c.args.entry.now.number c.args.by)
left g c =
    let e = c.reverse.ensures in
    lent_left _ _ _ _ _ _ _ _ _ _ (with_reversal c.args.entry.now.number c.args.by) (record { number = λ l. refl; boarded = λ l. refl }) c.self.invariant
    (record { all = ap (λ (s : KeptLoans). s.loans) c.self.view_is; place = c.requires.place; pointer = c.index_mut-loan.ensures.value; loan = c.deref_mut.ensures.value })
    (record { held = e.held; closed = e.closed; months = e.months })

pub invariant_of-self : goal.invariant_of-self
invariant_of-self g c = (left g c).kept

pub returns-clause-held : goal.returns-clause-held
returns-clause-held g c = (left g c).held

pub returns-clause-closed : goal.returns-clause-closed
returns-clause-closed g c = (left g c).closed

pub returns-clause-remitted : goal.returns-clause-remitted
returns-clause-remitted g c = (left g c).remitted c.reverse.ensures.remitted

pub returns-clause-steps : goal.returns-clause-steps
returns-clause-steps g c = found_of (λ (k : KeptLoan). c.reverse.new.steps ≤ c.args.steps.now + g.B.LoanBooks.cost k.held.account (month_number c.args.entry.now.day) + closed_cost g.B.LoanBooks.month_cost k.held.account k.closed (month_number c.args.entry.now.day)) c.args.place.id _ c.reverse.new.self c.reverse.ensures.steps (left g c).found

pub returns-clause-place : goal.returns-clause-place
returns-clause-place g c = (left g c).place
