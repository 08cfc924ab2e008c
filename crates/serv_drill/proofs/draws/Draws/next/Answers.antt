use Rattle.std.proofs.Common.{◌^◌, arith, ap, ◌*◌, ◌/◌, ◌%◌}
use Rattle.std.proofs.Math.Nat.{mod-add-mod}
use Rattle.serv_drill.specs.Draws.{drawn, next_state}
use Rattle.serv_drill.proofs.draws.Draws.next.Goals as goal

pub overflow_cast-result : goal.overflow_cast-result
overflow_cast-result c = omega arith

pub returns-clause-state : goal.returns-clause-state
unfolding next_state
returns-clause-state c = mod-add-mod (c.args.self.now.state * 6_364_136_223_846_793_005) (2 ^ 64) 1_442_695_040_888_963_407

pub returns-clause-draw : goal.returns-clause-draw
unfolding next_state drawn
returns-clause-draw c =
    ap (λ x. x / 2 ^ 33 % 10) (mod-add-mod (c.args.self.now.state * 6_364_136_223_846_793_005) (2 ^ 64) 1_442_695_040_888_963_407)
