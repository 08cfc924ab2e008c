use Rattle.std.proofs.Common.{◌≡◌, arith, subst, ◌∙◌}
use Rattle.std.specs.Prelude.{None, Some, IfErr, OnOk}
use Rattle.svc_rules.specs.State.{world_of}
use Rattle.svc_world.specs.Refusals.{first_of, on_loan, rules_of}
use Rattle.svc_world.specs.declared.scope.Scope.TheVariants as scope
use Rattle.svc_loan.specs.Loans.{find_kept}
use Rattle.svc_rules.specs.declared.target.Target.TheVariants as target
use Rattle.svc_rules.specs.Targets.{IsTarget}
use Rattle.svc_rules.proofs.RefusingLemmas.{kept_found, kept_none, kept_today, rules_there, rules_none, rules_cost_is, ok_as}
use Rattle.svc_rules.proofs.refusing.refuse_one.Given.{Over}
use Rattle.svc_rules.proofs.refusing.refuse_one.Goals as goal

pub loan-requires : goal.loan-requires
loan-requires g c = c.in-Some.ensures.1

pub refuse_on-why-requires-clause-today : goal.refuse_on-why-requires-clause-today
refuse_on-why-requires-clause-today g c = kept_today c.args.count c.args.state.now.today c.args.state.now.loans c.args.state.now.seals c.in-Some.place.id c.loan.result.now c.requires.world c.loan.ensures

-- why it is refused, by the rules on the loan that the command names
cause : (g : Over) (c : goal.After-unless g) → c.refuse_on-why.result ≡ first_of (on_loan (world_of c.args.state.now.today c.args.state.now.loans c.args.state.now.seals) c.args.id (rules_of (world_of c.args.state.now.today c.args.state.now.loans c.args.state.now.seals) c.args.command.now))
cause g c =
    let w = world_of c.args.state.now.today c.args.state.now.loans c.args.state.now.seals in
    let found : find_kept c.args.id c.args.state.now.loans.loans ≡ Some c.loan.result.now = subst (λ n. find_kept n c.args.state.now.loans.loans ≡ Some c.loan.result.now) c.in-Some.ensures.0 c.loan.ensures in
    c.refuse_on-why.ensures.cause ∙ rules_there w c.args.id (rules_of w c.args.command.now) c.loan.result.now.held (kept_found c.args.state.now.loans.loans c.args.id c.loan.result.now found)

pub returns-in-Some-clause-cause : goal.returns-in-Some-clause-cause
returns-in-Some-clause-cause g c = subst (λ o. IfErr c.unless.result (λ why. o ≡ Some why)) (cause g c) c.unless.ensures.cause

pub returns-in-Some-clause-fresh : goal.returns-in-Some-clause-fresh
returns-in-Some-clause-fresh g c = subst (λ o. OnOk c.unless.result (o ≡ None)) (cause g c) c.unless.ensures.none

pub returns-in-Some-clause-target : goal.returns-in-Some-clause-target
returns-in-Some-clause-target g c = ok_as c.unless.result (target.One c.in-Some.place) (IsTarget (scope.One c.args.id) c.args.state.now.loans.loans) c.in-Some.ensures c.unless.ensures.target

pub returns-in-Some-clause-steps : goal.returns-in-Some-clause-steps
returns-in-Some-clause-steps g c =
    let w = world_of c.args.state.now.today c.args.state.now.loans c.args.state.now.seals in
    let found : find_kept c.args.id c.args.state.now.loans.loans ≡ Some c.loan.result.now = subst (λ n. find_kept n c.args.state.now.loans.loans ≡ Some c.loan.result.now) c.in-Some.ensures.0 c.loan.ensures in
    let le = rules_cost_is g.B.LoanBooks.cost w c.args.id c.args.command.now c.loan.result.now.held c.requires.scope (kept_found c.args.state.now.loans.loans c.args.id c.loan.result.now found) in
    let s = c.refuse_on-why.ensures.steps in
    omega (arith, le, s)

pub returns-in-None-clause-cause : goal.returns-in-None-clause-cause
returns-in-None-clause-cause g c =
    let w = world_of c.args.state.now.today c.args.state.now.loans c.args.state.now.seals in
    rules_none w c.args.id (rules_of w c.args.command.now) (kept_none c.args.state.now.loans.loans c.args.id c.in-None.ensures)
