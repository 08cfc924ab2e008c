use Rattle.svc_world.proofs.PartLemmas.{rows_are_totals}
use Rattle.svc_world.proofs.laws.rows_add_up.Goals as goal

pub returns : goal.returns
returns c = record { sums = rows_are_totals }
