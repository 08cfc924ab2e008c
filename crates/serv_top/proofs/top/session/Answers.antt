use Rattle.std.proofs.Common.{ap, arith, ⊎_elim}
use Rattle.serv_machine.proofs.MemoryLemmas.{in_memory}
use Rattle.serv_top.proofs.Running.{ran_nothing, ran_serving}
use Rattle.serv_top.proofs.top.session.Goals as goal

pub returns-in-Ok-clause-ran : goal.returns-in-Ok-clause-ran
returns-in-Ok-clause-ran g c =
    ran_serving _ _ _ _ c.serve-status.result _ _ _ _ _ _ _ _ (ap in_memory c.in-Ok.ensures.history) (λ is. ⊎_elim (λ less. omega (arith, less)) (λ top. omega (arith, top)) (c.serve-status.ensures.disk is)) c.serve-status.ensures.ends

pub returns-in-Err-clause-ran : goal.returns-in-Err-clause-ran
returns-in-Err-clause-ran g c = ran_nothing _ _ _ _
