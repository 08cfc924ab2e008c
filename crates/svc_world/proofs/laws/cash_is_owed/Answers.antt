use Rattle.svc_world.proofs.OwedLemmas.{cash_is_owed}
use Rattle.svc_world.proofs.laws.cash_is_owed.Goals as goal

pub returns : goal.returns
returns c = record { owed = cash_is_owed }
