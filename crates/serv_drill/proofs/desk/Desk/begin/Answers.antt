use Rattle.std.proofs.Common.{◌≡◌, ℕ, ◌+◌, ◌*◌, ◌≤◌, List, [], ◌∷◌, ◌++◌, arith, ap, subst, ◌∙◌}
use Rattle.std.proofs.lemmas.Result.{on_ok_weaker}
use Rattle.svc_base.specs.DayLemmas.{month_length_least}
use Rattle.svc_base.specs.Calendar.{first_day}
use Rattle.svc_types.specs.declared.requests.Command.TheVariants as command
use Rattle.serv_drill.specs.Tallies.{tally}
use Rattle.serv_drill.specs.Works.{Work, Do, december, boardings, turn, first_works}
use Rattle.serv_drill.specs.Machine.{after_works, cost_of_works}
use Rattle.serv_drill.proofs.WorkLemmas.{then_after, then_cost, front_cost}
use Rattle.serv_drill.proofs.desk.Desk.begin.Goals as goal

pub new-day-requires-clause-last : goal.new-day-requires-clause-last
new-day-requires-clause-last g c = let least = month_length_least c.december.result in omega (arith, least)

pub returns-in_err-perform-clause-steps : goal.returns-in_err-perform-clause-steps
unfolding first_works
returns-in_err-perform-clause-steps g c =
    let t = tally c.args.self.now in
    let w1 : List Work = Do (command.Day (first_day december + 14)) ∷ [] in
    let day : c.new-day.result ≡ first_day december + 14 = c.new-day.ensures ∙ ap (λ m. 31 * m + 14) c.december.ensures in
    let cost = subst (λ (d : ℕ). c.perform.new.steps ≤ c.args.steps.now + cost_of_works t (Do (command.Day d) ∷ [])) day c.perform.ensures.steps in
    front_cost t w1 (boardings c.args.loans ++ turn december) _ _ cost

pub returns-in_err-board_all-clause-steps : goal.returns-in_err-board_all-clause-steps
unfolding first_works
returns-in_err-board_all-clause-steps g c =
    let t = tally c.args.self.now in
    let t1 = tally c.perform.new.self in
    let w1 : List Work = Do (command.Day (first_day december + 14)) ∷ [] in
    let day : c.new-day.result ≡ first_day december + 14 = c.new-day.ensures ∙ ap (λ m. 31 * m + 14) c.december.ensures in
    let cost = subst (λ (d : ℕ). c.perform.new.steps ≤ c.args.steps.now + cost_of_works t (Do (command.Day d) ∷ [])) day c.perform.ensures.steps in
    let after = subst (λ (d : ℕ). t1 ≡ after_works t (Do (command.Day d) ∷ [])) day c.in_ok-perform.ensures.after in
    then_cost t t1 w1 (boardings c.args.loans ++ turn december) _ _ _ after cost
    (front_cost t1 (boardings c.args.loans) (turn december) _ _ c.board_all.ensures.steps)

pub returns-clause-after : goal.returns-clause-after
unfolding first_works
returns-clause-after g c =
    let t = tally c.args.self.now in
    let t1 = tally c.perform.new.self in
    let t2 = tally c.board_all.new.self in
    let w1 : List Work = Do (command.Day (first_day december + 14)) ∷ [] in
    let day : c.new-day.result ≡ first_day december + 14 = c.new-day.ensures ∙ ap (λ m. 31 * m + 14) c.december.ensures in
    let after = subst (λ (d : ℕ). t1 ≡ after_works t (Do (command.Day d) ∷ [])) day c.in_ok-perform.ensures.after in
    on_ok_weaker c.turn.result (λ e. then_after t t1 _ w1 (boardings c.args.loans ++ turn december) after
    (then_after t1 t2 _ (boardings c.args.loans) (turn december) c.in_ok-board_all.ensures.after (e ∙ ap (λ m. after_works t2 (turn m)) c.december-2.ensures))) c.turn.ensures.after

pub returns-clause-steps : goal.returns-clause-steps
unfolding first_works
returns-clause-steps g c =
    let t = tally c.args.self.now in
    let t1 = tally c.perform.new.self in
    let t2 = tally c.board_all.new.self in
    let w1 : List Work = Do (command.Day (first_day december + 14)) ∷ [] in
    let day : c.new-day.result ≡ first_day december + 14 = c.new-day.ensures ∙ ap (λ m. 31 * m + 14) c.december.ensures in
    let cost = subst (λ (d : ℕ). c.perform.new.steps ≤ c.args.steps.now + cost_of_works t (Do (command.Day d) ∷ [])) day c.perform.ensures.steps in
    let after = subst (λ (d : ℕ). t1 ≡ after_works t (Do (command.Day d) ∷ [])) day c.in_ok-perform.ensures.after in
    let last = subst (λ (m : ℕ). c.turn.new.steps ≤ c.board_all.new.steps + cost_of_works t2 (turn m)) c.december-2.ensures c.turn.ensures.steps in
    then_cost t t1 w1 (boardings c.args.loans ++ turn december) _ _ _ after cost
    (then_cost t1 t2 (boardings c.args.loans) (turn december) _ _ _ c.in_ok-board_all.ensures.after c.board_all.ensures.steps last)
