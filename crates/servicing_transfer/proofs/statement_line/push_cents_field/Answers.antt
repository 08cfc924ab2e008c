use Rattle.std.proofs.Common.{◌≡◌, ◌++◌, ◌∷◌, []}
use Rattle.std.specs.Prelude.{OnOk}
use Rattle.svc_base.specs.Text.{text_of_signed}
use Rattle.servicing_transfer.proofs.LineTexts.{pushed4, pushed_as, field_text, as_passed}
use Rattle.servicing_transfer.proofs.statement_line.push_cents_field.Goals as goal

pub returns : goal.returns
returns c =
    let r = c.push_signed.result in
    let o = c.args.out.now.items in
    let y = c.push_signed.new.out.items in
    let x = c.push_bytes-3.new.out.items in
    let name = c.args.name.now in
    let z = c.args.cents in
    pushed_as r o _ _ y (field_text name z)
    (pushed4 r o (32 ∷ []) c.push_bytes.new.out.items name c.push_bytes-2.new.out.items (32 ∷ []) x (text_of_signed z) y
    c.in_ok-push_bytes.ensures.pushed c.in_ok-push_bytes-2.ensures.pushed c.in_ok-push_bytes-3.ensures.pushed (as_passed (λ v. OnOk r (y ≡ x ++ text_of_signed v)) z c.ranges.cents c.push_signed.ensures.pushed))
