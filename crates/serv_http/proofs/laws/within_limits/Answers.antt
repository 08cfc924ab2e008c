use Rattle.serv_http.proofs.LimitLemmas.{not-refused}
use Rattle.serv_http.proofs.laws.within_limits.Goals as goal

pub returns : goal.returns
returns c = not-refused
