use Rattle.svc_world.proofs.LawLemmas.{are_lawful}
use Rattle.svc_world.proofs.laws.histories_are_lawful.Goals as goal

pub returns : goal.returns
returns c = record { lawful = are_lawful }
