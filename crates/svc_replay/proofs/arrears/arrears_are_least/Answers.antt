use Rattle.svc_replay.proofs.ArrearsLemmas.{least_that_pays}
use Rattle.svc_replay.proofs.arrears.arrears_are_least.Goals as goal

pub returns : goal.returns
returns c = least_that_pays
