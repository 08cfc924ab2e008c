use Rattle.serv_http.proofs.PathLemmas.{loan-spells, no-loan}
use Rattle.serv_http.proofs.queries.loan.Goals as goal

pub returns-in-Some-clause-read : goal.returns-in-Some-clause-read
returns-in-Some-clause-read c = loan-spells c.args.path.now c.in-Some.loan c.in-Some.ensures.range c.in-Some.ensures.read

pub returns-in-None-clause-none : goal.returns-in-None-clause-none
returns-in-None-clause-none c = no-loan c.args.path.now c.in-None.ensures.none
