use Rattle.std.proofs.Common.{◌≡◌, ℕ, ◌+◌, ◌-◌, ◌*◌, ◌≤◌, arith, refl, sym, ap, subst, ◌∙◌}
use Rattle.serv_drill.specs.Draws.{state_after}
use Rattle.serv_drill.specs.Tallies.{tally}
use Rattle.serv_drill.specs.Works.{each, month_works, state_at}
use Rattle.serv_drill.specs.Machine.{after_works, cost_of_works}
use Rattle.serv_drill.proofs.DrawLemmas.{state_at_first, state_at_more}
use Rattle.serv_drill.proofs.WorkLemmas.{more_after, more_cost, part_cost, month_is, few_made}
use Rattle.serv_drill.proofs.desk.Desk.months.Goals as goal

pub loop-j-init : goal.loop-j-init
unfolding each after_works cost_of_works
loop-j-init g c =
    let first = c.new-draws.ensures ∙ sym (state_at_first c.args.loans c.args.number) in
    record { after = refl; draws = first; earlier = first; made = omega arith; cost = omega arith }

pub month-requires-clause-room : goal.month-requires-clause-room
month-requires-clause-room g c =
    let most = few_made (c.loop-j.j + 1) (2 * c.args.loans + 3) (omega arith) in
    omega (arith, most, c.loop-j.invariant.made)

pub returns-in_err-month-clause-steps : goal.returns-in_err-month-clause-steps
returns-in_err-month-clause-steps g c =
    let j = c.loop-j.j in
    let t = tally c.args.self.now in
    let t1 = tally c.loop-j.self in
    let f = month_works c.args.loans c.args.number in
    let same = month_is c.args.loans c.args.number j _ _ c.loop-j.invariant.earlier c.loop-j.invariant.draws in
    let cost = subst (λ ws. c.month.new.steps ≤ c.loop-j.steps + cost_of_works t1 ws) same c.month.ensures.steps in
    part_cost f t (j + 1) 12 _ _ (omega arith) (more_cost f j t t1 _ _ _ c.loop-j.invariant.after c.loop-j.invariant.cost cost)

pub loop-j-preserved : goal.loop-j-preserved
loop-j-preserved g c =
    let j = c.loop-j.j in
    let t = tally c.args.self.now in
    let t1 = tally c.loop-j.self in
    let f = month_works c.args.loans c.args.number in
    let same = month_is c.args.loans c.args.number j _ _ c.loop-j.invariant.earlier c.loop-j.invariant.draws in
    let cost = subst (λ ws. c.month.new.steps ≤ c.loop-j.steps + cost_of_works t1 ws) same c.month.ensures.steps in
    let back : j ≡ (j + 1) - 1 = omega arith in
    record {
      after = more_after f j t t1 _ c.loop-j.invariant.after (c.in_ok-month.ensures.after ∙ ap (after_works t1) same);
      draws = c.in_ok-month.ensures.draws ∙ ap (λ x. state_after x c.args.loans) c.loop-j.invariant.draws ∙ state_at_more c.args.loans c.args.number j;
      earlier = c.loop-j.invariant.draws ∙ ap (state_at c.args.loans c.args.number) back;
      made = omega (arith, c.month.ensures.made, c.loop-j.invariant.made);
      cost = more_cost f j t t1 _ _ _ c.loop-j.invariant.after c.loop-j.invariant.cost cost;
    }

pub returns-clause-after : goal.returns-clause-after
returns-clause-after g c =
    let all : c.loop-j.j ≡ 12 = omega arith in
    subst (λ (n : ℕ). tally c.loop-j.self ≡ after_works (tally c.args.self.now) (each (month_works c.args.loans c.args.number) n)) all c.loop-j.invariant.after

pub returns-clause-steps : goal.returns-clause-steps
returns-clause-steps g c = part_cost (month_works c.args.loans c.args.number) (tally c.args.self.now) c.loop-j.j 12 _ _ (omega arith) c.loop-j.invariant.cost
