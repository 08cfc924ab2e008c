use Rattle.std.proofs.Common.{◌≡◌, ℕ, Some, subst, arith}
use Rattle.httparse.proofs.HeadLemmas.{OnErr-map}
use Rattle.serv_http.specs.Conns.{IsStep}
use Rattle.serv_http.proofs.StepLemmas.{heading-stands, stands-begun, ok-map}
use Rattle.serv_http.proofs.conn.Conn.step.Goals as goal

pub returns-in-Asked-clause-ok : goal.returns-in-Asked-clause-ok
returns-in-Asked-clause-ok c = λ s x.
    let h = c.in-Asked.ensures s (heading-stands c.args.self.now s c.in-Heading.is x) c.in-Heading.is in
    let same : c.in-Asked.used ≡ c.min.result = omega (arith, c.min.ensures, h.0) in
    subst (λ (n : ℕ). IsStep s c.args.piece.now c.read_head.new.self n (Some c.in-Asked.ask)) same h

pub returns-in-Begun-clause-ok : goal.returns-in-Begun-clause-ok
returns-in-Begun-clause-ok c =
    ok-map c.read_rest.result
    (λ r h s x. let b = c.in-Begun.ensures s (heading-stands c.args.self.now s c.in-Heading.is x) c.in-Heading.is in h s b.0 b.1)
    c.read_rest.ensures.ok

pub returns-in-Begun-clause-err : goal.returns-in-Begun-clause-err
returns-in-Begun-clause-err c =
    OnErr-map c.read_rest.result
    (λ h s x. let r = c.in-Begun.ensures s (heading-stands c.args.self.now s c.in-Heading.is x) c.in-Heading.is in h s r.0 r.1)
    c.read_rest.ensures.err

pub returns-in_default : goal.returns-in_default
returns-in_default c = record {
  within = c.read_body.ensures.within;
  ok = ok-map c.read_body.result (λ r h s x. h s (stands-begun c.args.self.now s c.in_default.not-Heading x)) c.read_body.ensures.ok;
  err = OnErr-map c.read_body.result (λ h s x. h s (stands-begun c.args.self.now s c.in_default.not-Heading x)) c.read_body.ensures.err;
}
