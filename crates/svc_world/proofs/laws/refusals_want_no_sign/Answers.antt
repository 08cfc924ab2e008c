use Rattle.svc_world.proofs.UnsignedRefusalLemmas.{refusal_low, query_refusal_low}
use Rattle.svc_world.proofs.laws.refusals_want_no_sign.Goals as goal

pub returns-clause-commands : goal.returns-clause-commands
returns-clause-commands c = refusal_low

pub returns-clause-queries : goal.returns-clause-queries
returns-clause-queries c = query_refusal_low
