use Rattle.svc_world.proofs.FrontLemmas.{history_front}
use Rattle.svc_world.proofs.laws.first_parts_are_histories.Goals as goal

pub returns : goal.returns
returns c = record { first = history_front }
