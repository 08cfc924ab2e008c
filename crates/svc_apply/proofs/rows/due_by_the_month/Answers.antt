use Rattle.svc_spec.proofs.SettlingLemmas.{due_by_month}
use Rattle.svc_apply.proofs.rows.due_by_the_month.Goals as goal

pub returns : goal.returns
returns c = due_by_month
