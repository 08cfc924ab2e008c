use Rattle.svc_world.proofs.KindLemmas.{kind_found}
use Rattle.svc_world.proofs.laws.last_change_counts.Goals as goal

pub returns : goal.returns
returns c = record { kind = kind_found }
