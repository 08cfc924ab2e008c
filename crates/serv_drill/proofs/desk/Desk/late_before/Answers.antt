use Rattle.std.proofs.Common.{arith, sym, ap, ◌∙◌}
use Rattle.std.proofs.lemmas.Result.{on_ok_weaker}
use Rattle.serv_drill.specs.Tallies.{tally}
use Rattle.serv_drill.specs.Machine.{after_works, cost_of_works}
use Rattle.serv_drill.proofs.WorkLemmas.{late_before-first, late_before-later}
use Rattle.serv_drill.proofs.desk.Desk.late_before.Goals as goal

pub returns-then-j-eq0-clause-after : goal.returns-then-j-eq0-clause-after
unfolding after_works
returns-then-j-eq0-clause-after g c = sym (ap (after_works (tally c.args.self.now)) (late_before-first c.args.j c.args.earlier.state c.args.loans (omega arith)))

pub returns-clause-after : goal.returns-clause-after
returns-clause-after g c =
    let same = late_before-later c.args.j c.month_before-month.result c.args.earlier.state c.args.loans (omega arith) c.month_before-month.ensures in
    on_ok_weaker c.work_all.result (λ e. e ∙ ap (after_works (tally c.args.self.now)) same) c.work_all.ensures.after

pub returns-clause-steps : goal.returns-clause-steps
returns-clause-steps g c =
    let same = ap (cost_of_works (tally c.args.self.now)) (late_before-later c.args.j c.month_before-month.result c.args.earlier.state c.args.loans (omega arith) c.month_before-month.ensures) in
    omega (arith, same, c.work_all.ensures.steps)
