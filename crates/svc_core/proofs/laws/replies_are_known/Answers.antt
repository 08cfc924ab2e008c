use Rattle.svc_world.specs.World.{first_world}
use Rattle.svc_core.proofs.PostedLemmas.{known_of, replies_next}
use Rattle.svc_core.proofs.laws.replies_are_known.Goals as goal

pub returns : goal.returns
returns c = record { known = λ h key. known_of 0 first_world h key; next = replies_next }
