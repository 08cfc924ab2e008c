use Rattle.std.proofs.Common.{refl}
use Rattle.std.proofs.lemmas.Result.{on_err_weaker}
use Rattle.serv_engine.proofs.engine.Engine.begin.Goals as goal

pub returns-clause-same_kept : goal.returns-clause-same_kept
returns-clause-same_kept g c = on_err_weaker c.enter.result (λ same. same refl) c.enter.ensures.same_kept
