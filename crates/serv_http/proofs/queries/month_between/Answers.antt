use Rattle.std.proofs.Common.{sym, ◌∙◌}
use Rattle.svc_base.specs.Text.{text_of_month}
use Rattle.serv_http.proofs.QueryLemmas.{between}
use Rattle.serv_http.proofs.queries.month_between.Goals as goal

pub returns-in-Err-clause-none : goal.returns-in-Err-clause-none
returns-in-Err-clause-none c = λ m is e.
    c.in-Err.ensures.none m is
    (between c.args.before.now c.in-Some.text.now (text_of_month m) c.args.after.now (sym c.in-Some.ensures.read ∙ e))
