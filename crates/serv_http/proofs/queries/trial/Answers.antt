use Rattle.serv_http.proofs.PathLemmas.{trial-spells, no-trial}
use Rattle.serv_http.proofs.queries.trial.Goals as goal

pub returns-in-Some-clause-read : goal.returns-in-Some-clause-read
returns-in-Some-clause-read c = trial-spells c.args.path.now c.in-Some.month c.in-Some.ensures.range c.in-Some.ensures.read

pub returns-in-None-clause-none : goal.returns-in-None-clause-none
returns-in-None-clause-none c = no-trial c.args.path.now c.in-None.ensures.none
