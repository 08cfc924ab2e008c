use Rattle.svc_world.proofs.QuoteLemmas.{quote_is_answered}
use Rattle.svc_world.proofs.laws.quotes_come_true.Goals as goal

pub returns : goal.returns
returns c = record { due = quote_is_answered }
