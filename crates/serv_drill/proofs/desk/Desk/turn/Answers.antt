use Rattle.std.proofs.Common.{◌≡◌, ℕ, ◌+◌, ◌≤◌, List, [], ◌∷◌, ap, subst, ◌∙◌}
use Rattle.std.proofs.lemmas.Result.{on_ok_weaker}
use Rattle.svc_base.specs.Calendar.{first_day}
use Rattle.svc_types.specs.declared.requests.Command.TheVariants as command
use Rattle.serv_drill.specs.Tallies.{tally}
use Rattle.serv_drill.specs.Works.{Work, Do, turn}
use Rattle.serv_drill.specs.Machine.{after_works, cost_of_works}
use Rattle.serv_drill.proofs.WorkLemmas.{then_after, then_cost, front_cost}
use Rattle.serv_drill.proofs.desk.Desk.turn.Goals as goal

pub returns-in_err-perform-clause-steps : goal.returns-in_err-perform-clause-steps
unfolding turn
returns-in_err-perform-clause-steps g c =
    let m = c.args.month in
    let day = c.first_day.ensures ∙ ap first_day c.plus.ensures in
    let cost = subst (λ (d : ℕ). c.perform.new.steps ≤ c.args.steps.now + cost_of_works (tally c.args.self.now) (Do (command.Day d) ∷ [])) day c.perform.ensures.steps in
    front_cost (tally c.args.self.now) (Do (command.Day (first_day (m + 1))) ∷ []) (Do (command.Close m) ∷ Do (command.Remit m) ∷ []) _ _ cost

pub returns-in_err-perform-2-clause-steps : goal.returns-in_err-perform-2-clause-steps
unfolding turn
returns-in_err-perform-2-clause-steps g c =
    let m = c.args.month in
    let t = tally c.args.self.now in
    let t1 = tally c.perform.new.self in
    let day = c.first_day.ensures ∙ ap first_day c.plus.ensures in
    let w1 : List Work = Do (command.Day (first_day (m + 1))) ∷ [] in
    let w2 : List Work = Do (command.Close m) ∷ [] in
    let w3 : List Work = Do (command.Remit m) ∷ [] in
    let cost = subst (λ (d : ℕ). c.perform.new.steps ≤ c.args.steps.now + cost_of_works t (Do (command.Day d) ∷ [])) day c.perform.ensures.steps in
    let after = subst (λ (d : ℕ). t1 ≡ after_works t (Do (command.Day d) ∷ [])) day c.in_ok-perform.ensures.after in
    front_cost t (Do (command.Day (first_day (m + 1))) ∷ Do (command.Close m) ∷ []) w3 _ _ (then_cost t t1 w1 w2 _ _ _ after cost c.perform-2.ensures.steps)

pub returns-clause-after : goal.returns-clause-after
unfolding turn
returns-clause-after g c =
    let m = c.args.month in
    let t = tally c.args.self.now in
    let t1 = tally c.perform.new.self in
    let t2 = tally c.perform-2.new.self in
    let day = c.first_day.ensures ∙ ap first_day c.plus.ensures in
    let w1 : List Work = Do (command.Day (first_day (m + 1))) ∷ [] in
    let w2 : List Work = Do (command.Close m) ∷ [] in
    let w3 : List Work = Do (command.Remit m) ∷ [] in
    let after = subst (λ (d : ℕ). t1 ≡ after_works t (Do (command.Day d) ∷ [])) day c.in_ok-perform.ensures.after in
    let both = then_after t t1 t2 w1 w2 after c.in_ok-perform-2.ensures.after in
    on_ok_weaker c.perform-3.result (λ e. then_after t t2 _ (Do (command.Day (first_day (m + 1))) ∷ Do (command.Close m) ∷ []) w3 both e) c.perform-3.ensures.after

pub returns-clause-steps : goal.returns-clause-steps
unfolding turn
returns-clause-steps g c =
    let m = c.args.month in
    let t = tally c.args.self.now in
    let t1 = tally c.perform.new.self in
    let t2 = tally c.perform-2.new.self in
    let day = c.first_day.ensures ∙ ap first_day c.plus.ensures in
    let w1 : List Work = Do (command.Day (first_day (m + 1))) ∷ [] in
    let w2 : List Work = Do (command.Close m) ∷ [] in
    let w3 : List Work = Do (command.Remit m) ∷ [] in
    let cost = subst (λ (d : ℕ). c.perform.new.steps ≤ c.args.steps.now + cost_of_works t (Do (command.Day d) ∷ [])) day c.perform.ensures.steps in
    let after = subst (λ (d : ℕ). t1 ≡ after_works t (Do (command.Day d) ∷ [])) day c.in_ok-perform.ensures.after in
    let both = then_after t t1 t2 w1 w2 after c.in_ok-perform-2.ensures.after in
    let cost2 = then_cost t t1 w1 w2 _ _ _ after cost c.perform-2.ensures.steps in
    then_cost t t2 (Do (command.Day (first_day (m + 1))) ∷ Do (command.Close m) ∷ []) w3 _ _ _ both cost2 c.perform-3.ensures.steps
