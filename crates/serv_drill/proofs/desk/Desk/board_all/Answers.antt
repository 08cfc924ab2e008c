use Rattle.std.proofs.Common.{◌≡◌, ℕ, ◌+◌, ◌≤◌, [], ◌∷◌, arith, refl, subst, sym}
use Rattle.svc_types.specs.declared.terms.Terms.{Terms}
use Rattle.svc_types.specs.declared.requests.Command.TheVariants as command
use Rattle.svc_types.specs.Requests.{IsReadTerms}
use Rattle.serv_drill.specs.Tallies.{tally}
use Rattle.serv_drill.specs.Works.{Do, each, boarding_at, boardings}
use Rattle.serv_drill.specs.Machine.{after_works, cost_of_works}
use Rattle.serv_drill.proofs.MonthLemmas.{terms_read}
use Rattle.serv_drill.proofs.WorkLemmas.{more_after, more_cost, part_cost}
use Rattle.serv_drill.proofs.desk.Desk.board_all.Goals as goal

pub loop-i-init : goal.loop-i-init
unfolding each after_works cost_of_works
loop-i-init g c = record { after = refl; made = omega arith; cost = omega arith }

pub perform-requires-clause-command : goal.perform-requires-clause-command
perform-requires-clause-command g c = (omega arith, subst IsReadTerms (sym c.terms.ensures) (terms_read (c.loop-i.i + 1)))

pub returns-in_err-perform-clause-steps : goal.returns-in_err-perform-clause-steps
unfolding boardings
returns-in_err-perform-clause-steps g c =
    let i = c.loop-i.i in
    let t = tally c.args.self.now in
    let t1 = tally c.loop-i.self in
    let cost = subst (λ (ts : Terms). c.perform.new.steps ≤ c.loop-i.steps + cost_of_works t1 (Do (command.Board (i + 1) ts) ∷ [])) c.terms.ensures c.perform.ensures.steps in
    part_cost boarding_at t (i + 1) c.args.loans _ _ (omega arith) (more_cost boarding_at i t t1 _ _ _ c.loop-i.invariant.after c.loop-i.invariant.cost cost)

pub loop-i-preserved : goal.loop-i-preserved
loop-i-preserved g c =
    let i = c.loop-i.i in
    let t = tally c.args.self.now in
    let t1 = tally c.loop-i.self in
    let cost = subst (λ (ts : Terms). c.perform.new.steps ≤ c.loop-i.steps + cost_of_works t1 (Do (command.Board (i + 1) ts) ∷ [])) c.terms.ensures c.perform.ensures.steps in
    let after = subst (λ (ts : Terms). tally c.perform.new.self ≡ after_works t1 (Do (command.Board (i + 1) ts) ∷ [])) c.terms.ensures c.in_ok-perform.ensures.after in
    record {
      after = more_after boarding_at i t t1 _ c.loop-i.invariant.after after;
      made = omega (arith, c.perform.ensures.made, c.loop-i.invariant.made);
      cost = more_cost boarding_at i t t1 _ _ _ c.loop-i.invariant.after c.loop-i.invariant.cost cost;
    }

pub returns-clause-after : goal.returns-clause-after
unfolding boardings
returns-clause-after g c =
    let all : c.loop-i.i ≡ c.args.loans = omega arith in
    subst (λ (n : ℕ). tally c.loop-i.self ≡ after_works (tally c.args.self.now) (each boarding_at n)) all c.loop-i.invariant.after

pub returns-clause-steps : goal.returns-clause-steps
unfolding boardings
returns-clause-steps g c = part_cost boarding_at (tally c.args.self.now) c.loop-i.i c.args.loans _ _ (omega arith) c.loop-i.invariant.cost
