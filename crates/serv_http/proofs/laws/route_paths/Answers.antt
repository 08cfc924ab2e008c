use Rattle.serv_http.proofs.RouteLemmas.{route-paths}
use Rattle.serv_http.proofs.laws.route_paths.Goals as goal

pub returns : goal.returns
returns c = λ route target all. route-paths route target all
