use Rattle.serv_http.proofs.PathLemmas.{arrears-spells, no-arrears}
use Rattle.serv_http.proofs.queries.arrears.Goals as goal

pub returns-in-Some-clause-read : goal.returns-in-Some-clause-read
returns-in-Some-clause-read c = arrears-spells c.args.path.now c.in-Some.loan c.in-Some.ensures.range c.in-Some.ensures.read

pub returns-in-None-clause-none : goal.returns-in-None-clause-none
returns-in-None-clause-none c = no-arrears c.args.path.now c.in-None.ensures.none
