use Rattle.serv_http.proofs.PathLemmas.{books-spell, no-books}
use Rattle.serv_http.proofs.queries.books.Goals as goal

pub returns-in-Some-clause-read : goal.returns-in-Some-clause-read
returns-in-Some-clause-read c = books-spell c.args.path.now c.in-Some.loan c.in-Some.ensures.range c.in-Some.ensures.read

pub returns-in-None-clause-none : goal.returns-in-None-clause-none
returns-in-None-clause-none c = no-books c.args.path.now c.in-None.ensures.none
