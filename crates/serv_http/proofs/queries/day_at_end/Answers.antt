use Rattle.std.proofs.Common.{◌-◌, length, take, drop, ◌∙◌}
use Rattle.serv_http.proofs.PathLemmas.{too-short, day-is, last-ten}
use Rattle.serv_http.proofs.queries.day_at_end.Goals as goal

pub returns-then-path-lt10-clause-none : goal.returns-then-path-lt10-clause-none
returns-then-path-lt10-clause-none c = λ front d is e. too-short c.args.path.now front d c.if-path-lt10.true e

pub returns-in-Err-clause-none : goal.returns-in-Err-clause-none
returns-in-Err-clause-none c = λ front d is e.
    let path = c.args.path.now in
    let ends = last-ten path c.if-path-lt10.false in
    c.in-Err.ensures.none d is
    (c.split_at.ensures.back ∙ (day-is path (take (length path - 10) path) (drop (length path - 10) path) front d ends.0 ends.1 e).1)
