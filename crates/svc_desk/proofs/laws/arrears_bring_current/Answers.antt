use Rattle.svc_desk.proofs.ToldLemmas.{least_is_answered}
use Rattle.svc_desk.proofs.laws.arrears_bring_current.Goals as goal

pub returns : goal.returns
returns c = record { least = least_is_answered }
