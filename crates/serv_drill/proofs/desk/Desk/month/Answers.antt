use Rattle.std.proofs.Common.{◌+◌, ◌≤◌, ◌++◌, refl, ap, subst, ◌∙◌}
use Rattle.std.proofs.lemmas.Result.{on_ok_weaker}
use Rattle.serv_drill.specs.Tallies.{tally}
use Rattle.serv_drill.specs.Works.{late_before, month_at, turn, work_of, works}
use Rattle.serv_drill.specs.Machine.{after_works, cost_of_works}
use Rattle.serv_drill.proofs.WorkLemmas.{then_after, then_cost, front_cost, month_parts}
use Rattle.serv_drill.proofs.desk.Desk.month.Goals as goal

pub returns-in_err-turn-clause-steps : goal.returns-in_err-turn-clause-steps
returns-in_err-turn-clause-steps g c =
    let t = tally c.args.self.now in
    let m = c.month_before.result in
    let rest = late_before c.args.j c.args.earlier.state c.args.loans ++ works work_of (month_at c.args.j) c.args.draws.now.state c.args.loans in
    let same = month_parts c.args.j m (month_at c.args.j) c.args.earlier.state c.args.draws.now.state c.args.loans c.month_before.ensures refl in
    subst (λ ws. c.turn.new.steps ≤ c.args.steps.now + cost_of_works t ws) same (front_cost t (turn m) rest _ _ c.turn.ensures.steps)

pub returns-in_err-late_before-clause-steps : goal.returns-in_err-late_before-clause-steps
returns-in_err-late_before-clause-steps g c =
    let t = tally c.args.self.now in
    let t1 = tally c.turn.new.self in
    let m = c.month_before.result in
    let late = late_before c.args.j c.args.earlier.state c.args.loans in
    let now = works work_of (month_at c.args.j) c.args.draws.now.state c.args.loans in
    let same = month_parts c.args.j m (month_at c.args.j) c.args.earlier.state c.args.draws.now.state c.args.loans c.month_before.ensures refl in
    subst (λ ws. c.late_before.new.steps ≤ c.args.steps.now + cost_of_works t ws) same
    (then_cost t t1 (turn m) (late ++ now) _ _ _ c.in_ok-turn.ensures.after c.turn.ensures.steps (front_cost t1 late now _ _ c.late_before.ensures.steps))

pub returns-clause-after : goal.returns-clause-after
returns-clause-after g c =
    let t = tally c.args.self.now in
    let t1 = tally c.turn.new.self in
    let t2 = tally c.late_before.new.self in
    let m = c.month_before.result in
    let m' = c.plus-month.result in
    let late = late_before c.args.j c.args.earlier.state c.args.loans in
    let now = works work_of m' c.args.draws.now.state c.args.loans in
    let month = c.plus-month.ensures ∙ ap (λ k. k + 1) c.month_before-2.ensures in
    let same = month_parts c.args.j m m' c.args.earlier.state c.args.draws.now.state c.args.loans c.month_before.ensures month in
    on_ok_weaker c.work_all.result (λ e. then_after t t1 _ (turn m) (late ++ now) c.in_ok-turn.ensures.after
    (then_after t1 t2 _ late now c.in_ok-late_before.ensures.after e) ∙ ap (after_works t) same) c.work_all.ensures.after

pub returns-clause-steps : goal.returns-clause-steps
returns-clause-steps g c =
    let t = tally c.args.self.now in
    let t1 = tally c.turn.new.self in
    let t2 = tally c.late_before.new.self in
    let m = c.month_before.result in
    let m' = c.plus-month.result in
    let late = late_before c.args.j c.args.earlier.state c.args.loans in
    let now = works work_of m' c.args.draws.now.state c.args.loans in
    let month = c.plus-month.ensures ∙ ap (λ k. k + 1) c.month_before-2.ensures in
    let same = month_parts c.args.j m m' c.args.earlier.state c.args.draws.now.state c.args.loans c.month_before.ensures month in
    subst (λ ws. c.work_all.new.steps ≤ c.args.steps.now + cost_of_works t ws) same
    (then_cost t t1 (turn m) (late ++ now) _ _ _ c.in_ok-turn.ensures.after c.turn.ensures.steps
    (then_cost t1 t2 late now _ _ _ c.in_ok-late_before.ensures.after c.late_before.ensures.steps c.work_all.ensures.steps))
