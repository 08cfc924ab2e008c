use Rattle.svc_core.specs.Asking.{WantsMemory}
use Rattle.serv_engine.proofs.FaultLemmas.{ask_memory}
use Rattle.serv_engine.proofs.engine.Engine.ask.Goals as goal

pub returns-in-Err-clause-memory : goal.returns-in-Err-clause-memory
returns-in-Err-clause-memory g c = rw c.of_core.ensures (ask_memory c.in-Err.why (WantsMemory c.args.query.now) c.in-Err.ensures.memory)
