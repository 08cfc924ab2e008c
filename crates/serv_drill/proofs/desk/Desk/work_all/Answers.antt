use Rattle.std.proofs.Common.{◌≡◌, ℕ, ◌+◌, ◌≤◌, arith, refl, ap, subst, sym, ◌∙◌}
use Rattle.serv_drill.specs.Draws.{drawn, draw, next_state, state_after}
use Rattle.serv_drill.specs.Tallies.{tally}
use Rattle.serv_drill.specs.Asked.{asked}
use Rattle.serv_drill.specs.Works.{each, asked_at, works}
use Rattle.serv_drill.specs.Machine.{after_works, cost_of_works}
use Rattle.serv_drill.proofs.DrawLemmas.{state_next}
use Rattle.serv_drill.proofs.WorkLemmas.{more_after, more_cost, part_cost}
use Rattle.serv_drill.proofs.desk.Desk.work_all.Goals as goal

pub loop-i-init : goal.loop-i-init
unfolding each after_works cost_of_works state_after
loop-i-init g c = record { after = refl; draws = refl; made = omega arith; cost = omega arith }

pub returns-in_err-asked-clause-steps : goal.returns-in_err-asked-clause-steps
unfolding works
returns-in_err-asked-clause-steps g c =
    let i = c.loop-i.i in
    let x = c.args.draws.now.state in
    let f = asked_at (asked c.args.when) c.args.month x in
    let t = tally c.args.self.now in
    let t1 = tally c.loop-i.self in
    let is : c.next-draw.result ≡ draw x i = c.next-draw.ensures.draw ∙ ap (λ s. drawn (next_state s)) c.loop-i.invariant.draws in
    let cost = subst (λ (r : ℕ). c.asked.new.steps ≤ c.loop-i.steps + cost_of_works t1 (asked c.args.when c.args.month (i + 1) r)) is c.asked.ensures.steps in
    part_cost f t (i + 1) c.args.loans _ _ (omega arith) (more_cost f i t t1 _ _ _ c.loop-i.invariant.after c.loop-i.invariant.cost cost)

pub loop-i-preserved : goal.loop-i-preserved
loop-i-preserved g c =
    let i = c.loop-i.i in
    let x = c.args.draws.now.state in
    let f = asked_at (asked c.args.when) c.args.month x in
    let t = tally c.args.self.now in
    let t1 = tally c.loop-i.self in
    let is : c.next-draw.result ≡ draw x i = c.next-draw.ensures.draw ∙ ap (λ s. drawn (next_state s)) c.loop-i.invariant.draws in
    let cost = subst (λ (r : ℕ). c.asked.new.steps ≤ c.loop-i.steps + cost_of_works t1 (asked c.args.when c.args.month (i + 1) r)) is c.asked.ensures.steps in
    let after = subst (λ (r : ℕ). tally c.asked.new.self ≡ after_works t1 (asked c.args.when c.args.month (i + 1) r)) is c.in_ok-asked.ensures.after in
    record {
      after = more_after f i t t1 _ c.loop-i.invariant.after after;
      draws = c.next-draw.ensures.state ∙ ap next_state c.loop-i.invariant.draws ∙ sym (state_next x i);
      made = omega (arith, c.asked.ensures.made, c.loop-i.invariant.made);
      cost = more_cost f i t t1 _ _ _ c.loop-i.invariant.after c.loop-i.invariant.cost cost;
    }

pub returns-clause-after : goal.returns-clause-after
unfolding works
returns-clause-after g c =
    let all : c.loop-i.i ≡ c.args.loans = omega arith in
    subst (λ (n : ℕ). tally c.loop-i.self ≡ after_works (tally c.args.self.now) (each (asked_at (asked c.args.when) c.args.month (c.args.draws.now.state)) n)) all c.loop-i.invariant.after

pub returns-clause-steps : goal.returns-clause-steps
unfolding works
returns-clause-steps g c = part_cost (asked_at (asked c.args.when) c.args.month (c.args.draws.now.state)) (tally c.args.self.now) c.loop-i.i c.args.loans _ _ (omega arith) c.loop-i.invariant.cost
