use Rattle.std.proofs.Common.{[], ◌∷◌, ap, ◌∙◌, arith}
use Rattle.std.proofs.lemmas.Result.{on_ok_weaker}
use Rattle.svc_types.specs.declared.requests.Command.TheVariants as command
use Rattle.serv_drill.specs.Tallies.{tally}
use Rattle.serv_drill.specs.Works.{Do}
use Rattle.serv_drill.specs.Machine.{after_work, after_works, cost_of_work, cost_of_works}
use Rattle.serv_drill.proofs.desk.Desk.take_back.Goals as goal

pub returns-clause-after : goal.returns-clause-after
unfolding after_works after_work
returns-clause-after g c =
    let t = tally c.args.self.now in
    on_ok_weaker c.perform.result (λ e. e ∙ ap (λ n. after_works t (Do (command.Reverse c.args.loan n) ∷ [])) c.last_payment-number.ensures) c.perform.ensures.after

pub returns-clause-steps : goal.returns-clause-steps
unfolding cost_of_works cost_of_work
returns-clause-steps g c =
    let t = tally c.args.self.now in
    let same = ap (λ n. cost_of_works t (Do (command.Reverse c.args.loan n) ∷ [])) c.last_payment-number.ensures in
    omega (arith, same, c.perform.ensures.steps)
