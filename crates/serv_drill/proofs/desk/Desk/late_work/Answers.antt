use Rattle.std.proofs.Common.{arith, sym, ap, ◌∙◌}
use Rattle.std.proofs.lemmas.Result.{on_ok_weaker}
use Rattle.svc_base.specs.DayLemmas.{month_length_least}
use Rattle.serv_drill.specs.Tallies.{tally}
use Rattle.serv_drill.specs.Machine.{after_works, cost_of_works}
use Rattle.serv_drill.proofs.WorkLemmas.{late_8, late_9, late_free}
use Rattle.serv_drill.proofs.desk.Desk.late_work.Goals as goal

pub new-requires-clause-last : goal.new-requires-clause-last
new-requires-clause-last g c = let least = month_length_least c.args.month in omega (arith, least)

pub returns-in-8-clause-after : goal.returns-in-8-clause-after
returns-in-8-clause-after g c =
    let same = late_8 c.args.month c.args.loan c.args.draw c.new.result c.in-8.is c.new.ensures in
    on_ok_weaker c.pay.result (λ e. e ∙ ap (after_works (tally c.args.self.now)) same) c.pay.ensures.after

pub returns-in-8-clause-steps : goal.returns-in-8-clause-steps
returns-in-8-clause-steps g c =
    let same = ap (cost_of_works (tally c.args.self.now)) (late_8 c.args.month c.args.loan c.args.draw c.new.result c.in-8.is c.new.ensures) in
    omega (arith, same, c.pay.ensures.steps)

pub returns-in-9-clause-after : goal.returns-in-9-clause-after
returns-in-9-clause-after g c =
    let same = late_9 c.args.month c.args.loan c.args.draw c.in-9.is in
    on_ok_weaker c.take_back.result (λ e. e ∙ ap (after_works (tally c.args.self.now)) same) c.take_back.ensures.after

pub returns-in-9-clause-steps : goal.returns-in-9-clause-steps
returns-in-9-clause-steps g c =
    let same = ap (cost_of_works (tally c.args.self.now)) (late_9 c.args.month c.args.loan c.args.draw c.in-9.is) in
    omega (arith, same, c.take_back.ensures.steps)

pub returns-in_default-clause-after : goal.returns-in_default-clause-after
unfolding after_works
returns-in_default-clause-after g c =
    sym (ap (after_works (tally c.args.self.now)) (late_free c.args.month c.args.loan c.args.draw (λ e. omega arith) (λ e. omega arith)))
