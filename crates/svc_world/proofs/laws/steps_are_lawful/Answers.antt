use Rattle.svc_world.proofs.LawLemmas.{is_lawful_step}
use Rattle.svc_world.proofs.laws.steps_are_lawful.Goals as goal

pub returns : goal.returns
returns c = record { step = is_lawful_step }
