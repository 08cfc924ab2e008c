use Rattle.std.proofs.Common.{◌≡◌, ◌++◌, ◌∷◌, [], subst}
use Rattle.std.specs.Prelude.{codes}
use Rattle.svc_base.specs.Text.{text_of_day}
use Rattle.serv_line.specs.Replies.{number_field}
use Rattle.servicing_transfer.proofs.LineTexts.{pushed4, pushed_as, heading_text}
use Rattle.servicing_transfer.proofs.stating.push_heading.Goals as goal

pub returns : goal.returns
returns c =
    let r = c.push_bytes-3.result in
    let o = c.args.out.now.items in
    let y = c.push_bytes-3.new.out.items in
    let day : c.push_bytes-2.new.out.items ≡ c.push_bytes.new.out.items ++ text_of_day c.args.today = subst (λ t. c.push_bytes-2.new.out.items ≡ c.push_bytes.new.out.items ++ t) c.write_day.ensures c.in_ok-push_bytes-2.ensures.pushed in
    pushed_as r o _ _ y (heading_text c.args.today c.args.loans)
    (pushed4 r o (codes "statement ") c.push_bytes.new.out.items (text_of_day c.args.today) c.push_bytes-2.new.out.items (number_field (codes "loans") c.args.loans) c.push_number_field.new.out.items (10 ∷ []) y
    c.in_ok-push_bytes.ensures.pushed day c.in_ok-push_number_field.ensures.pushed c.push_bytes-3.ensures.pushed)
