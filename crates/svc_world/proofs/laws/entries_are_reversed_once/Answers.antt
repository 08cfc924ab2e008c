use Rattle.svc_world.proofs.OnceLemmas.{are_reversed_once}
use Rattle.svc_world.proofs.laws.entries_are_reversed_once.Goals as goal

pub returns : goal.returns
returns c = record { once = are_reversed_once }
