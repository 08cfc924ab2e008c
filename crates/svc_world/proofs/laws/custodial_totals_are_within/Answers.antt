use Rattle.svc_world.proofs.RangeLemmas.{custody_in_range}
use Rattle.svc_world.proofs.laws.custodial_totals_are_within.Goals as goal

pub returns : goal.returns
returns c = record { within = custody_in_range }
