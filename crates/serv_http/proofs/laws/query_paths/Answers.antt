use Rattle.serv_http.proofs.OwnPathLemmas.{query-path}
use Rattle.serv_http.proofs.laws.query_paths.Goals as goal

pub returns : goal.returns
returns c = query-path
