use Rattle.serv_http.proofs.PathLemmas.{payoff-spells, no-payoff}
use Rattle.serv_http.proofs.queries.payoff.Goals as goal

pub returns-in-Some-clause-read : goal.returns-in-Some-clause-read
returns-in-Some-clause-read c =
    payoff-spells c.args.path.now c.in-Some.of.loan c.in-Some.of.day c.in-Some.ensures.range.0 c.in-Some.ensures.range.1 c.in-Some.ensures.read

pub returns-in-None-clause-none : goal.returns-in-None-clause-none
returns-in-None-clause-none c = no-payoff c.args.path.now c.in-None.ensures.none
