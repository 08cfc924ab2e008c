use Rattle.std.proofs.Common.{sym, ◌∙◌}
use Rattle.serv_http.proofs.OpenTargetLemmas.{no-word, both-tests, one-test}
use Rattle.serv_http.proofs.target.is_open_target.Goals as goal

pub returns-then-is_token : goal.returns-then-is_token
returns-then-is_token c =
    both-tests (record { other = c.in-Some.ensures.0; cut = c.in-Some.ensures.1 })
    (sym c.is_token.ensures ∙ c.if-is_token.true) c.is_target.ensures

pub returns-else-is_token : goal.returns-else-is_token
returns-else-is_token c =
    one-test (record { other = c.in-Some.ensures.0; cut = c.in-Some.ensures.1 })
    c.is_token.ensures c.if-is_token.false

pub returns-in-None : goal.returns-in-None
returns-in-None c = (λ t. absurd (cc), λ o. absurd (no-word c.args.rest.now c.in-None.ensures o))
