use Rattle.std.proofs.Common.{refl}
use Rattle.svc_replay.specs.Chosen.{chosen}
use Rattle.svc_replay.proofs.entries.Entries.new.Goals as goal

pub returns-clause-live : goal.returns-clause-live
unfolding chosen
returns-clause-live c = rw c.new-2.ensures.items refl
