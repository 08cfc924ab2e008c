use Rattle.std.proofs.Common.{◌++◌, ◌∙◌, List, ℕ, ap, codes}
use Rattle.http.specs.StatusCode.{code_digits}
use Rattle.serv_http.specs.Responses.{phrase_of, line_end}
use Rattle.serv_http.proofs.PushLemmas.{five-pushed}
use Rattle.serv_http.proofs.response.push_status.Goals as goal

pub returns : goal.returns
returns c =
    five-pushed c.args.out.now.items (codes "HTTP/1.1 ") (code_digits c.args.status) (codes " ") (phrase_of c.args.status) line_end
    c.push.new.out.items c.push-2.new.out.items c.push-3.new.out.items c.push-4.new.out.items c.push-5.new.out.items
    c.in_ok-push.ensures c.in_ok-push-2.ensures c.in_ok-push-3.ensures
    (c.in_ok-push-4.ensures ∙ ap (λ (t : List ℕ). c.push-3.new.out.items ++ t) (c.as_bytes.ensures.value ∙ c.phrase_of.ensures))
    c.in_ok-push-5.ensures
