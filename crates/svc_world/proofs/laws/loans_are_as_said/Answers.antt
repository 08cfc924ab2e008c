use Rattle.svc_world.proofs.SaidLemmas.{today_is, is_as_said}
use Rattle.svc_world.proofs.laws.loans_are_as_said.Goals as goal

pub returns-clause-today : goal.returns-clause-today
returns-clause-today c = today_is

pub returns-clause-said : goal.returns-clause-said
returns-clause-said c = is_as_said
