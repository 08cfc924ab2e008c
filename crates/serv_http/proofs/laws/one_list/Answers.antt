use Rattle.serv_http.proofs.StreamLemmas.{asks-unique}
use Rattle.serv_http.proofs.laws.one_list.Goals as goal

pub returns : goal.returns
returns c = asks-unique
