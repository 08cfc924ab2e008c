use Rattle.std.proofs.Common.{◌≡◌, ap, refl, sym, subst, ◌∙◌}
use Rattle.std.specs.Prelude.{None, Some, IfErr, IfOk, OnOk}
use Rattle.svc_world.specs.Refusals.{first_of, cases_by_command}
use Rattle.svc_rules.specs.State.{world_of}
use Rattle.svc_rules.specs.declared.target.Target.TheVariants as target
use Rattle.svc_rules.specs.Targets.{IsTarget}
use Rattle.svc_world.specs.Scope.{scope_of}
use Rattle.svc_rules.proofs.RefusingLemmas.{refused_full, refused_by, cases_one, new_is_board, ok_as}
use Rattle.svc_rules.proofs.refusing.refuse.Goals as goal

pub returns-then-count-ge-MOST_COMMANDS-clause-cause : goal.returns-then-count-ge-MOST_COMMANDS-clause-cause
returns-then-count-ge-MOST_COMMANDS-clause-cause g c = refused_full c.args.count (world_of c.args.state.now.today c.args.state.now.loans c.args.state.now.seals) c.args.command.now c.if-count-ge-MOST_COMMANDS.true

pub returns-in-One-clause-cause : goal.returns-in-One-clause-cause
returns-in-One-clause-cause g c =
    let w = world_of c.args.state.now.today c.args.state.now.loans c.args.state.now.seals in
    subst (λ o. IfErr c.refuse_one.result (λ why. o ≡ Some why)) (ap first_of (sym (cases_one w c.in-One.id c.args.command.now (sym c.in-One.ensures))) ∙ refused_by c.args.count w c.args.command.now c.if-count-ge-MOST_COMMANDS.false) c.refuse_one.ensures.cause

pub returns-in-One-clause-fresh : goal.returns-in-One-clause-fresh
returns-in-One-clause-fresh g c =
    let w = world_of c.args.state.now.today c.args.state.now.loans c.args.state.now.seals in
    subst (λ o. OnOk c.refuse_one.result (o ≡ None)) (ap first_of (sym (cases_one w c.in-One.id c.args.command.now (sym c.in-One.ensures))) ∙ refused_by c.args.count w c.args.command.now c.if-count-ge-MOST_COMMANDS.false) c.refuse_one.ensures.fresh

pub returns-in-One-clause-target : goal.returns-in-One-clause-target
returns-in-One-clause-target g c = subst (λ s. IfOk c.refuse_one.result (IsTarget s c.args.state.now.loans.loans)) c.in-One.ensures c.refuse_one.ensures.target

pub returns-in-New-clause-cause : goal.returns-in-New-clause-cause
returns-in-New-clause-cause g c =
    let w = world_of c.args.state.now.today c.args.state.now.loans c.args.state.now.seals in
    subst (λ o. IfErr c.unless.result (λ why. o ≡ Some why)) (c.refuse_board.ensures ∙ ap (λ x. first_of (cases_by_command w x)) (sym (new_is_board c.in-New.id c.in-New.terms c.args.command.now (sym c.in-New.ensures))) ∙ refused_by c.args.count w c.args.command.now c.if-count-ge-MOST_COMMANDS.false) c.unless.ensures.cause

pub returns-in-New-clause-fresh : goal.returns-in-New-clause-fresh
returns-in-New-clause-fresh g c =
    let w = world_of c.args.state.now.today c.args.state.now.loans c.args.state.now.seals in
    subst (λ o. OnOk c.unless.result (o ≡ None)) (c.refuse_board.ensures ∙ ap (λ x. first_of (cases_by_command w x)) (sym (new_is_board c.in-New.id c.in-New.terms c.args.command.now (sym c.in-New.ensures))) ∙ refused_by c.args.count w c.args.command.now c.if-count-ge-MOST_COMMANDS.false) c.unless.ensures.none

pub returns-in-New-clause-target : goal.returns-in-New-clause-target
returns-in-New-clause-target g c = ok_as c.unless.result (target.New c.in-New.id c.in-New.terms) (IsTarget (scope_of c.args.command.now) c.args.state.now.loans.loans) (subst (λ s. IsTarget s c.args.state.now.loans.loans (target.New c.in-New.id c.in-New.terms)) c.in-New.ensures (refl, refl)) c.unless.ensures.target

pub returns-in-Every-clause-cause : goal.returns-in-Every-clause-cause
returns-in-Every-clause-cause g c =
    let w = world_of c.args.state.now.today c.args.state.now.loans c.args.state.now.seals in
    subst (λ o. IfErr c.unless-in-Every.result (λ why. o ≡ Some why)) (c.refuse_every.ensures ∙ refused_by c.args.count w c.args.command.now c.if-count-ge-MOST_COMMANDS.false) c.unless-in-Every.ensures.cause

pub returns-in-Every-clause-fresh : goal.returns-in-Every-clause-fresh
returns-in-Every-clause-fresh g c =
    let w = world_of c.args.state.now.today c.args.state.now.loans c.args.state.now.seals in
    subst (λ o. OnOk c.unless-in-Every.result (o ≡ None)) (c.refuse_every.ensures ∙ refused_by c.args.count w c.args.command.now c.if-count-ge-MOST_COMMANDS.false) c.unless-in-Every.ensures.none

pub returns-in-Every-clause-target : goal.returns-in-Every-clause-target
returns-in-Every-clause-target g c = ok_as c.unless-in-Every.result target.Every (IsTarget (scope_of c.args.command.now) c.args.state.now.loans.loans) (subst (λ s. IsTarget s c.args.state.now.loans.loans target.Every) c.in-Every.ensures tt) c.unless-in-Every.ensures.target
