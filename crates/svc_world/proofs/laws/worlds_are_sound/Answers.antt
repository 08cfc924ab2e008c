use Rattle.svc_world.proofs.HistoryLemmas.{are_worlds}
use Rattle.svc_world.proofs.laws.worlds_are_sound.Goals as goal

pub returns : goal.returns
returns c = record { worlds = are_worlds }
