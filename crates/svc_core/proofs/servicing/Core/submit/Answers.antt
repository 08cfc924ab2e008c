use Rattle.std.proofs.Common.{arith, subst}
use Rattle.svc_world.specs.Judging.{judged}
use Rattle.svc_core.specs.Core.{IsVerdict}
use Rattle.svc_world.proofs.LawLemmas.{is_lawful_step}
use Rattle.svc_core.proofs.BoundLemmas.{submitting_within, fresh_counted}
use Rattle.svc_core.proofs.servicing.Core.submit.Goals as goal

pub returns-in_err-reply-clause-step : goal.returns-in_err-reply-clause-step
returns-in_err-reply-clause-step g c = λ fresh. is_lawful_step c.args.self.now.history c.args.key.now c.args.command.now c.history_holds.ensures.history fresh

pub returns-in_err-reply-clause-bound : goal.returns-in_err-reply-clause-bound
returns-in_err-reply-clause-bound g c = λ is free.
    let within = submitting_within g.B.LoanBooks.cost g.B.LoanBooks.month_cost c.args.self.now.history c.args.key.now c.args.command.now is free c.history_holds.ensures.history in
    let le = c.judge.ensures.steps in
    omega (arith, le, within)

pub returns-in-Fresh-clause-bound : goal.returns-in-Fresh-clause-bound
returns-in-Fresh-clause-bound g c = λ is free.
    let within = submitting_within g.B.LoanBooks.cost g.B.LoanBooks.month_cost c.args.self.now.history c.args.key.now c.args.command.now is free c.history_holds.ensures.history in
    let counted = fresh_counted g.B.LoanBooks.cost g.B.LoanBooks.month_cost c.args.self.now.history c.judge.new.self.history c.args.key.now c.args.command.now c.args.steps.now c.judge.new.steps c.accept.new.steps (subst (λ v. IsVerdict (judged c.args.self.now.history c.args.key.now c.args.command.now) v) c.in-Fresh.is c.in_ok-reply.ensures.verdict) c.judge.ensures.history c.judge.ensures.steps c.accept.ensures.steps in
    omega (arith, counted, within)
