use Rattle.svc_world.proofs.StayLemmas.{reports_grow}
use Rattle.svc_world.proofs.laws.reports_stay.Goals as goal

pub returns : goal.returns
returns c = record { stay = reports_grow }
