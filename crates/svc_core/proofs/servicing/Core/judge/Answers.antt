use Rattle.std.proofs.Common.{◌+◌, ◌≤◌, sym, ap, subst, ◌∙◌}
use Rattle.std.specs.Prelude.{None, Some, IfOk, IfErr}
use Rattle.svc_world.specs.Judging.{judged}
use Rattle.svc_core.specs.Core.{Standing, IsVerdict, IsFault, judging_cost}
use Rattle.svc_core.specs.Posted.{known_as}
use Rattle.svc_core.proofs.PartsLemmas.{known_here, unknown_steps, judged_known}
use Rattle.svc_core.proofs.servicing.Core.judge.Goals as goal

pub judge_new-requires-clause-unknown : goal.judge_new-requires-clause-unknown
judge_new-requires-clause-unknown g c = known_here c.self.inside.parts.posted c.self.inside.parts.state.today c.self.inside.parts.state.loans c.self.inside.parts.state.seals c.self.inside.parts.cash.book.rows c.self.inside.parts.cash.custody c.self.inside.parts.cash.positions.items c.args.key.now None c.self.invariant.parts c.in-None.ensures

pub returns-in-Some-clause-verdict : goal.returns-in-Some-clause-verdict
returns-in-Some-clause-verdict g c =
    let hist = ap (λ (s : Standing). s.history) c.self.view_is in
    let found = known_here c.self.inside.parts.posted c.self.inside.parts.state.today c.self.inside.parts.state.loans c.self.inside.parts.state.seals c.self.inside.parts.cash.book.rows c.self.inside.parts.cash.custody c.self.inside.parts.cash.positions.items c.args.key.now (Some (known_as c.in-Some.before c.in-Some.reply)) c.self.invariant.parts c.in-Some.ensures in
    let said = ap (λ h. judged h c.args.key.now c.args.command.now) (sym hist) ∙ judged_known c.self.inside.parts.posted.history c.args.key.now c.args.command.now (known_as c.in-Some.before c.in-Some.reply) found in
    subst (λ j. IfOk c.repeat.result (IsVerdict j)) (sym said) c.repeat.ensures.verdict

pub returns-in-Some-clause-fault : goal.returns-in-Some-clause-fault
returns-in-Some-clause-fault g c =
    let hist = ap (λ (s : Standing). s.history) c.self.view_is in
    let found = known_here c.self.inside.parts.posted c.self.inside.parts.state.today c.self.inside.parts.state.loans c.self.inside.parts.state.seals c.self.inside.parts.cash.book.rows c.self.inside.parts.cash.custody c.self.inside.parts.cash.positions.items c.args.key.now (Some (known_as c.in-Some.before c.in-Some.reply)) c.self.invariant.parts c.in-Some.ensures in
    let said = ap (λ h. judged h c.args.key.now c.args.command.now) (sym hist) ∙ judged_known c.self.inside.parts.posted.history c.args.key.now c.args.command.now (known_as c.in-Some.before c.in-Some.reply) found in
    subst (λ j. IfErr c.repeat.result (IsFault j)) (sym said) c.repeat.ensures.fault

pub returns-in_err-ready-in-None-clause-steps : goal.returns-in_err-ready-in-None-clause-steps
returns-in_err-ready-in-None-clause-steps g c =
    let hist = ap (λ (s : Standing). s.history) c.self.view_is in
    let none = known_here c.self.inside.parts.posted c.self.inside.parts.state.today c.self.inside.parts.state.loans c.self.inside.parts.state.seals c.self.inside.parts.cash.book.rows c.self.inside.parts.cash.custody c.self.inside.parts.cash.positions.items c.args.key.now None c.self.invariant.parts c.in-None.ensures in
    subst (λ h. c.judge_new.new.steps ≤ c.args.steps.now + judging_cost g.B.LoanBooks.cost h c.args.key.now c.args.command.now) hist (unknown_steps g.B.LoanBooks.cost c.self.inside.parts.posted.history c.args.key.now c.args.command.now c.args.steps.now c.judge_new.new.steps none c.judge_new.ensures.steps)

pub returns-in_ok-ready-in-None-clause-steps : goal.returns-in_ok-ready-in-None-clause-steps
returns-in_ok-ready-in-None-clause-steps g c =
    let hist = ap (λ (s : Standing). s.history) c.self.view_is in
    let none = known_here c.self.inside.parts.posted c.self.inside.parts.state.today c.self.inside.parts.state.loans c.self.inside.parts.state.seals c.self.inside.parts.cash.book.rows c.self.inside.parts.cash.custody c.self.inside.parts.cash.positions.items c.args.key.now None c.self.invariant.parts c.in-None.ensures in
    subst (λ h. c.judge_new.new.steps ≤ c.args.steps.now + judging_cost g.B.LoanBooks.cost h c.args.key.now c.args.command.now) hist (unknown_steps g.B.LoanBooks.cost c.self.inside.parts.posted.history c.args.key.now c.args.command.now c.args.steps.now c.judge_new.new.steps none c.judge_new.ensures.steps)
