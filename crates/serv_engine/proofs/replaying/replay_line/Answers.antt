use Rattle.std.proofs.Common.{inr, ap, ◌∙◌}
use Rattle.svc_world.specs.World.{accepted}
use Rattle.serv_line.specs.Lines.{line_of}
use Rattle.serv_engine.proofs.ReplayLemmas.{on_ok, on_any_err, more_bound}
use Rattle.serv_engine.proofs.replaying.replay_line.Goals as goal

pub returns-in-Do-clause-bound : goal.returns-in-Do-clause-bound
returns-in-Do-clause-bound g c = λ is free.
    on_ok c.accept_again.result _ _ c.accept_again.ensures.more (λ more. more_bound _ _ _ _ _ _ more (c.accept_again.ensures.bound is free))

pub returns-in-Do-clause-bound_err : goal.returns-in-Do-clause-bound_err
returns-in-Do-clause-bound_err g c = λ is free.
    on_any_err c.accept_again.result _ (inr (accepted c.in-Do.key c.in-Do.command, c.in-Ok.ensures.read ∙ ap line_of c.in-Do.is, c.accept_again.ensures.bound is free))
