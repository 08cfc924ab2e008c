use Rattle.std.proofs.lemmas.Bool.{both_ways}
use Rattle.serv_http.proofs.PathLemmas.{status-spells, no-status}
use Rattle.serv_http.proofs.queries.status.Goals as goal

pub returns-then-is_text-clause-read : goal.returns-then-is_text-clause-read
returns-then-is_text-clause-read c = status-spells c.args.path.now (c.is_text.ensures.same.0 c.if-is_text.true)

pub returns-else-is_text-clause-none : goal.returns-else-is_text-clause-none
returns-else-is_text-clause-none c =
    no-status c.args.path.now (λ e. both_ways c.is_text.result c.if-is_text.false (c.is_text.ensures.same.1 e))
