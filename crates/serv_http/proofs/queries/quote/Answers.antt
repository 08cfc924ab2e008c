use Rattle.serv_http.proofs.PathLemmas.{quote-spells, no-quote}
use Rattle.serv_http.proofs.queries.quote.Goals as goal

pub returns-in-Some-clause-read : goal.returns-in-Some-clause-read
returns-in-Some-clause-read c =
    quote-spells c.args.path.now c.in-Some.of.loan c.in-Some.of.day c.in-Some.ensures.range.0 c.in-Some.ensures.range.1 c.in-Some.ensures.read

pub returns-in-None-clause-none : goal.returns-in-None-clause-none
returns-in-None-clause-none c = no-quote c.args.path.now c.in-None.ensures.none
