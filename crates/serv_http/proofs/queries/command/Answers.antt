use Rattle.serv_http.proofs.PathLemmas.{command-spells, no-command}
use Rattle.serv_http.proofs.queries.command.Goals as goal

pub returns-in-Some-clause-read : goal.returns-in-Some-clause-read
returns-in-Some-clause-read c = command-spells c.args.path.now c.in-Some.number c.in-Some.ensures.range c.in-Some.ensures.read

pub returns-in-None-clause-none : goal.returns-in-None-clause-none
returns-in-None-clause-none c = no-command c.args.path.now c.in-None.ensures.none
