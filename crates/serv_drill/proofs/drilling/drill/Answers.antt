use Rattle.std.proofs.Common.{◌+◌, ◌≤◌, arith, ap, subst, ◌∙◌}
use Rattle.std.proofs.lemmas.Result.{IfOk-weaker}
use Rattle.serv_drill.specs.Tallies.{tally}
use Rattle.serv_drill.specs.Works.{first_works, all_months, year_works}
use Rattle.serv_drill.specs.Machine.{Tally, first_tally, after_works, cost_of_works}
use Rattle.serv_drill.specs.Summary.{summary, summary_of}
use Rattle.serv_drill.proofs.WorkLemmas.{then_after, then_cost, front_cost}
use Rattle.serv_drill.proofs.drilling.drill.Goals as goal

pub returns-in_err-begin-clause-steps : goal.returns-in_err-begin-clause-steps
unfolding year_works
returns-in_err-begin-clause-steps g c =
    let first = first_works c.args.loans in
    let cost = subst (λ (t : Tally). c.begin.new.steps ≤ c.args.steps.now + cost_of_works t first) c.in_ok-desk.ensures.tally c.begin.ensures.steps in
    front_cost first_tally first (all_months c.args.loans c.args.number) _ _ cost

pub returns-in_err-months-clause-steps : goal.returns-in_err-months-clause-steps
unfolding year_works
returns-in_err-months-clause-steps g c =
    let first = first_works c.args.loans in
    let cost = subst (λ (t : Tally). c.begin.new.steps ≤ c.args.steps.now + cost_of_works t first) c.in_ok-desk.ensures.tally c.begin.ensures.steps in
    let after = c.in_ok-begin.ensures.after ∙ ap (λ t. after_works t first) c.in_ok-desk.ensures.tally in
    then_cost first_tally (tally c.begin.new.self) first (all_months c.args.loans c.args.number) _ _ _ after cost c.months.ensures.steps

pub returns-clause-text : goal.returns-clause-text
unfolding year_works summary
returns-clause-text g c =
    let first = first_works c.args.loans in
    let months = all_months c.args.loans c.args.number in
    let after = c.in_ok-begin.ensures.after ∙ ap (λ t. after_works t first) c.in_ok-desk.ensures.tally in
    let whole = then_after first_tally (tally c.begin.new.self) (tally c.months.new.self) first months after c.in_ok-months.ensures.after in
    IfOk-weaker c.summarize.result _ _ (λ text e. e ∙ ap (summary_of c.args.loans c.args.number) whole) c.summarize.ensures.text

pub returns-clause-steps : goal.returns-clause-steps
unfolding year_works
returns-clause-steps g c =
    let first = first_works c.args.loans in
    let cost = subst (λ (t : Tally). c.begin.new.steps ≤ c.args.steps.now + cost_of_works t first) c.in_ok-desk.ensures.tally c.begin.ensures.steps in
    let after = c.in_ok-begin.ensures.after ∙ ap (λ t. after_works t first) c.in_ok-desk.ensures.tally in
    let most = then_cost first_tally (tally c.begin.new.self) first (all_months c.args.loans c.args.number) _ _ _ after cost c.months.ensures.steps in
    omega (arith, most, c.summarize.ensures.steps)
