use Rattle.std.proofs.Common.{◌<◌, ◌⊎◌, inl, inr, arith, sym, ap, ◌∙◌}
use Rattle.std.proofs.lemmas.Result.{on_ok_weaker}
use Rattle.serv_drill.specs.Tallies.{tally}
use Rattle.serv_drill.specs.Machine.{after_works, cost_of_works}
use Rattle.serv_drill.proofs.WorkLemmas.{work_free, work_paid}
use Rattle.serv_drill.proofs.desk.Desk.work.Goals as goal
use Rattle.serv_drill.proofs.desk.Desk.work.Goals.{in_default-via-then-draw-lt7, in_default-via-else-draw-lt7+else-draw-lt9}

pub returns-in-7-clause-after : goal.returns-in-7-clause-after
unfolding after_works
returns-in-7-clause-after g c = sym (ap (after_works (tally c.args.self.now)) (work_free c.args.month c.args.loan c.args.draw (omega arith) (omega arith)))

pub returns-in_default-clause-after : goal.returns-in_default-clause-after
returns-in_default-clause-after g c =
    let r = c.args.draw in
    let paid : (r < 7) ⊎ (8 < r) = elim c.in_default.branch [ in_default-via-then-draw-lt7 w ↦ inl (omega arith) | in_default-via-else-draw-lt7+else-draw-lt9 w ↦ inr (omega arith) ] in
    let same = work_paid c.args.month c.args.loan r c.first_day.result paid c.first_day.ensures in
    on_ok_weaker c.pay.result (λ e. e ∙ ap (after_works (tally c.args.self.now)) same) c.pay.ensures.after

pub returns-in_default-clause-steps : goal.returns-in_default-clause-steps
returns-in_default-clause-steps g c =
    let r = c.args.draw in
    let paid : (r < 7) ⊎ (8 < r) = elim c.in_default.branch [ in_default-via-then-draw-lt7 w ↦ inl (omega arith) | in_default-via-else-draw-lt7+else-draw-lt9 w ↦ inr (omega arith) ] in
    let same = ap (cost_of_works (tally c.args.self.now)) (work_paid c.args.month c.args.loan r c.first_day.result paid c.first_day.ensures) in
    omega (arith, same, c.pay.ensures.steps)
