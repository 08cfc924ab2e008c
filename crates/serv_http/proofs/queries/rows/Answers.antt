use Rattle.serv_http.proofs.PathLemmas.{rows-spell, no-rows}
use Rattle.serv_http.proofs.queries.rows.Goals as goal

pub returns-in-Some-clause-read : goal.returns-in-Some-clause-read
returns-in-Some-clause-read c = rows-spell c.args.path.now c.in-Some.number c.in-Some.ensures.range c.in-Some.ensures.read

pub returns-in-None-clause-none : goal.returns-in-None-clause-none
returns-in-None-clause-none c = no-rows c.args.path.now c.in-None.ensures.none
