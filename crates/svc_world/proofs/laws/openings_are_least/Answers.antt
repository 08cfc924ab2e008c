use Rattle.svc_world.proofs.OpeningLemmas.{is_least}
use Rattle.svc_world.proofs.laws.openings_are_least.Goals as goal

pub returns : goal.returns
returns c = record { least = is_least }
