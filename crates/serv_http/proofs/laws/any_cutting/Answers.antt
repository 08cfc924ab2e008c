use Rattle.serv_http.proofs.StreamLemmas.{asks-grow, asks-over}
use Rattle.serv_http.proofs.laws.any_cutting.Goals as goal

pub returns-clause-goes_on : goal.returns-clause-goes_on
returns-clause-goes_on c = asks-grow

pub returns-clause-over : goal.returns-clause-over
returns-clause-over c = asks-over
