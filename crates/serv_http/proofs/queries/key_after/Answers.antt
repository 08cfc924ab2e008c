use Rattle.std.proofs.Common.{None, Some}
use Rattle.std.proofs.lemmas.Bool.Decides.{Decides-eqb}
use Rattle.std.proofs.lemmas.Slice.Eq.{strip_prefix_is}
use Rattle.serv_http.proofs.PathLemmas.{key-read, key-none}
use Rattle.serv_http.proofs.queries.key_after.Goals as goal

pub returns-in-None-clause-none : goal.returns-in-None-clause-none
returns-in-None-clause-none c = λ key is e.
    strip_prefix_is Decides-eqb c.args.path.now c.args.before.now None c.in-None.ensures.cases _ e

pub returns-in-Some-clause-read : goal.returns-in-Some-clause-read
returns-in-Some-clause-read c =
    key-read c.args.path.now c.args.before.now c.in-Some.text.now c.read_key.result
    (strip_prefix_is Decides-eqb c.args.path.now c.args.before.now (Some c.in-Some.text) c.in-Some.ensures.cases) c.read_key.ensures

pub returns-in-Some-clause-none : goal.returns-in-Some-clause-none
returns-in-Some-clause-none c =
    key-none c.args.path.now c.args.before.now c.in-Some.text.now c.read_key.result
    (strip_prefix_is Decides-eqb c.args.path.now c.args.before.now (Some c.in-Some.text) c.in-Some.ensures.cases) c.read_key.ensures
