use Rattle.serv_http.proofs.PathLemmas.{number-none}
use Rattle.serv_http.proofs.queries.number_between.Goals as goal

pub returns-clause-none : goal.returns-clause-none
returns-clause-none c =
    number-none c.args.path.now c.args.before.now c.args.after.now c.in-Some.text.now c.read_number.result
    c.in-Some.ensures.read c.read_number.ensures.none
