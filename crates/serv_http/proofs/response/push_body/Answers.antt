use Rattle.std.proofs.Common.{◌++◌, ◌∙◌, List, ℕ, length, ap, codes}
use Rattle.std.specs.Prelude.{decimal}
use Rattle.serv_http.specs.Responses.{type_line, line_end}
use Rattle.serv_http.proofs.PushLemmas.{six-pushed}
use Rattle.serv_http.proofs.response.push_body.Goals as goal

pub returns : goal.returns
returns c =
    six-pushed c.args.out.now.items (codes "Content-Length: ") (decimal (length c.args.body.now)) line_end (type_line c.args.body.now) line_end
    c.args.body.now
    c.push.new.out.items c.push-2.new.out.items c.push-3.new.out.items c.push_type.new.out.items c.push-4.new.out.items c.push-5.new.out.items
    c.in_ok-push.ensures
    (c.in_ok-push-2.ensures ∙ ap (λ (t : List ℕ). c.push.new.out.items ++ t) (c.as_bytes.ensures.value ∙ c.in_ok-size.ensures.ok))
    c.in_ok-push-3.ensures c.in_ok-push_type.ensures c.in_ok-push-4.ensures c.in_ok-push-5.ensures
