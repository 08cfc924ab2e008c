use Rattle.svc_checkpoint.proofs.PlanLemmas.{names_found}
use Rattle.svc_checkpoint.proofs.plans.name_anew.Goals as goal

pub returns-clause-new : goal.returns-clause-new
returns-clause-new c = names_found c.args.kept.now.account c.live.result c.number_of.result c.args.plan.now c.is_account.ensures c.live.ensures c.requires.plan c.number_of.ensures
