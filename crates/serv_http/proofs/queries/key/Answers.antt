use Rattle.serv_http.proofs.PathLemmas.{key-spells, no-key}
use Rattle.serv_http.proofs.queries.key.Goals as goal

pub returns-in-Some-clause-read : goal.returns-in-Some-clause-read
returns-in-Some-clause-read c = key-spells c.args.path.now c.in-Some.key c.in-Some.ensures.formed c.in-Some.ensures.read

pub returns-in-None-clause-none : goal.returns-in-None-clause-none
returns-in-None-clause-none c = no-key c.args.path.now c.in-None.ensures.none
