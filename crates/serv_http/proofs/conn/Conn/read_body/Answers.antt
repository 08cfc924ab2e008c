use Rattle.httparse.proofs.HeadLemmas.{OnErr-map}
use Rattle.serv_http.proofs.StepLemmas.{begun-keeping}
use Rattle.serv_http.proofs.conn.Conn.read_body.Goals as goal

pub returns-in-Keeping-clause-err : goal.returns-in-Keeping-clause-err
returns-in-Keeping-clause-err c =
    OnErr-map c.keep.result
    (λ h s b. h s (begun-keeping c.args.self.now c.in-Keeping.have c.in-Keeping.need c.in-Keeping.last s c.in-Keeping.is b))
    c.keep.ensures.err
