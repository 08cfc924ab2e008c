use Rattle.std.proofs.Common.{None, Some}
use Rattle.std.proofs.lemmas.Bool.Decides.{Decides-eqb}
use Rattle.std.proofs.lemmas.Slice.Eq.{strip_prefix_is, strip_suffix_is}
use Rattle.serv_http.proofs.PathLemmas.{between-read, between-none}
use Rattle.serv_http.proofs.queries.between.Goals as goal

pub returns-in-None-clause-none : goal.returns-in-None-clause-none
returns-in-None-clause-none c = λ mid e.
    strip_prefix_is Decides-eqb c.args.path.now c.args.before.now None c.in-None.ensures.cases _ e

pub returns-in-Some-clause-read : goal.returns-in-Some-clause-read
returns-in-Some-clause-read c =
    between-read c.args.path.now c.args.before.now c.args.after.now c.in-Some.rest.now c.strip_suffix.result
    (strip_prefix_is Decides-eqb c.args.path.now c.args.before.now (Some c.in-Some.rest) c.in-Some.ensures.cases)
    (strip_suffix_is Decides-eqb c.in-Some.rest.now c.args.after.now c.strip_suffix.result c.strip_suffix.ensures.cases)

pub returns-in-Some-clause-none : goal.returns-in-Some-clause-none
returns-in-Some-clause-none c =
    between-none c.args.path.now c.args.before.now c.args.after.now c.in-Some.rest.now c.strip_suffix.result
    (strip_prefix_is Decides-eqb c.args.path.now c.args.before.now (Some c.in-Some.rest) c.in-Some.ensures.cases)
    (strip_suffix_is Decides-eqb c.in-Some.rest.now c.args.after.now c.strip_suffix.result c.strip_suffix.ensures.cases)
