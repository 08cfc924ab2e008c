use Rattle.serv_http.proofs.StreamLemmas.{asks-first}
use Rattle.serv_http.proofs.laws.first_of.Goals as goal

pub returns : goal.returns
returns c = asks-first
