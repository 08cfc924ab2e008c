use Rattle.std.proofs.Common.{◌++◌, List, ℕ, codes}
use Rattle.svc_base.specs.Text.{text_of_number, text_of_day}
use Rattle.serv_http.proofs.QueryLemmas.{length-day}
use Rattle.serv_http.proofs.PathLemmas.{day-is, with-day}
use Rattle.serv_http.proofs.queries.loan_and_day.Goals as goal

pub returns-in-None-clause-none : goal.returns-in-None-clause-none
returns-in-None-clause-none c = λ l d small is e.
    let front : List ℕ = codes "/v1/loans/" ++ (text_of_number l ++ c.args.middle.now) in
    c.in-None.ensures.none front d is (with-day c.args.path.now (codes "/v1/loans/") (text_of_number l) c.args.middle.now (text_of_day d) e)

pub returns-in-None-number_between-clause-none : goal.returns-in-None-number_between-clause-none
returns-in-None-number_between-clause-none c = λ l d small is e.
    let front : List ℕ = codes "/v1/loans/" ++ (text_of_number l ++ c.args.middle.now) in
    let cut = with-day c.args.path.now (codes "/v1/loans/") (text_of_number l) c.args.middle.now (text_of_day d) e in
    c.in-None-number_between.ensures.none l small
    (day-is c.args.path.now c.in-Some.front.now (text_of_day c.in-Some.day) front d c.in-Some.ensures.read.1
    (length-day c.in-Some.day) cut).0
