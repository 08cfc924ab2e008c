use Rattle.svc_world.proofs.LineOrderLemmas.{lines_in_order}
use Rattle.svc_world.proofs.laws.lines_are_in_order.Goals as goal

pub returns : goal.returns
returns c = record { order = lines_in_order }
