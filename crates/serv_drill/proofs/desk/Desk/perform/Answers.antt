use Rattle.std.proofs.Common.{◌≡◌, arith, to_z, of_z, ◌+ℤ◌, ◌∙◌}
use Rattle.std.specs.Int.{w128}
use Rattle.std.proofs.lemmas.Int.{ints}
use Rattle.serv_drill.specs.Tallies.{tally}
use Rattle.serv_drill.proofs.DeskLemmas.{performed, performed_cost, begun_cost, byte_is}
use Rattle.serv_drill.proofs.desk.Desk.perform.Goals as goal

pub returns-in_err-first-clause-steps : goal.returns-in_err-first-clause-steps
returns-in_err-first-clause-steps g c = begun_cost (tally c.args.self.now) _ _ _ _ c.in_ok-key.ensures c.submit.ensures.steps

pub returns-in_err-second-clause-steps : goal.returns-in_err-second-clause-steps
returns-in_err-second-clause-steps g c = performed_cost (tally c.args.self.now) _ _ _ c.in_ok-key.ensures c.in_ok-first.ensures.history _ _ _ c.submit.ensures.steps c.submit-2.ensures.steps

pub invariant_of-self-2 : goal.invariant_of-self-2
invariant_of-self-2 g c =
    let fits : to_z w128 (of_z w128 (to_z w128 (of_z w128 c.args.self.now.remitted) +ℤ to_z w128 (of_z w128 c.from-3.result))) ≡ c.args.self.now.remitted +ℤ c.from-3.result = omega (arith, ints) in
    let first = c.from.ensures ∙ byte_is c.in_ok-first.first.kept in
    let second = c.from-2.ensures ∙ byte_is c.in_ok-second.second.kept in
    record { repeats_few = grind arith; remitted_high = omega (arith, ints); remitted_low = omega (arith, ints) }

pub returns-clause-after : goal.returns-clause-after
returns-clause-after g c =
    let fits : to_z w128 (of_z w128 (to_z w128 (of_z w128 c.args.self.now.remitted) +ℤ to_z w128 (of_z w128 c.from-3.result))) ≡ c.args.self.now.remitted +ℤ c.from-3.result = omega (arith, ints) in
    let net : c.from-3.result ≡ c.in_ok-first.first.net = omega (arith, ints) in
    let first = c.from.ensures ∙ byte_is c.in_ok-first.first.kept in
    let second = c.from-2.ensures ∙ byte_is c.in_ok-second.second.kept in
    performed (tally c.args.self.now) _ _ _ c.in_ok-key.ensures c.in_ok-first.ensures.history _
    c.in_ok-first.first.kept c.in_ok-second.second.kept _ c.from-3.result _ c.in_ok-second.ensures.history
    c.in_ok-first.ensures.kept c.in_ok-second.ensures.kept (omega (arith, first, second)) (net ∙ c.in_ok-first.ensures.net) fits

pub returns-clause-steps : goal.returns-clause-steps
returns-clause-steps g c = performed_cost (tally c.args.self.now) _ _ _ c.in_ok-key.ensures c.in_ok-first.ensures.history _ _ _ c.submit.ensures.steps c.submit-2.ensures.steps
