use Rattle.std.proofs.Common.{◌≡◌, ◌++◌}
use Rattle.std.specs.Prelude.{codes, OnOk}
use Rattle.serv_line.specs.Replies.{signed_field}
use Rattle.servicing_transfer.proofs.LineTexts.{pushed3, pushed_as, total_text, as_passed}
use Rattle.servicing_transfer.proofs.stating.push_total.Goals as goal

pub returns : goal.returns
returns c =
    let r = c.push_cents_field-2.result in
    let o = c.args.out.now.items in
    let x1 = c.push_bytes.new.out.items in
    let x2 = c.push_cents_field.new.out.items in
    let y = c.push_cents_field-2.new.out.items in
    pushed_as r o _ _ y (total_text c.args.t c.args.p)
    (pushed3 r o (codes "total") x1 (signed_field (codes "T") c.args.t) x2 (signed_field (codes "P") c.args.p) y
    c.in_ok-push_bytes.ensures.pushed
    (as_passed (λ v. x2 ≡ x1 ++ signed_field (codes "T") v) c.args.t c.ranges.t c.in_ok-push_cents_field.ensures)
    (as_passed (λ v. OnOk r (y ≡ x2 ++ signed_field (codes "P") v)) c.args.p c.ranges.p c.push_cents_field-2.ensures))
