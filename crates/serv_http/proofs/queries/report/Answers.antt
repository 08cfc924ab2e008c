use Rattle.serv_http.proofs.PathLemmas.{report-spells, no-report}
use Rattle.serv_http.proofs.queries.report.Goals as goal

pub returns-in-Some-clause-read : goal.returns-in-Some-clause-read
returns-in-Some-clause-read c = report-spells c.args.path.now c.in-Some.month c.in-Some.ensures.range c.in-Some.ensures.read

pub returns-in-None-clause-none : goal.returns-in-None-clause-none
returns-in-None-clause-none c = no-report c.args.path.now c.in-None.ensures.none
