use Rattle.std.proofs.Common.{◌++◌, take, subst}
use Rattle.serv_http.specs.declared.ask.Plan.{Plan}
use Rattle.serv_http.specs.Plans.{IsPlan}
use Rattle.serv_http.specs.Streams.{ask_of}
use Rattle.serv_http.proofs.StepLemmas.{whole-now, whole-pass, step-asked}
use Rattle.serv_http.proofs.conn.Conn.begin.Goals as goal

pub returns-in-Now : goal.returns-in-Now
returns-in-Now c = λ s piece h x p l.
    step-asked s piece c.finish.new.self c.args.used (ask_of c.in-Now.due) c.asked.result c.is_last.result l
    (whole-now (s ++ take c.args.used piece) h c.in-Now.due x (subst (λ (q : Plan). IsPlan h q) c.in-Now.is p))
    c.asked.ensures c.is_last.ensures c.finish.ensures.stage c.finish.ensures.filled

pub returns-in-Pass : goal.returns-in-Pass
returns-in-Pass c = λ s piece h x p l.
    (l, whole-pass (s ++ take c.args.used piece) h c.in-Pass.count c.in-Pass.due x (subst (λ (q : Plan). IsPlan h q) c.in-Pass.is p))
