use Rattle.std.proofs.Common.{◌≡◌, ◌++◌, sym, ap, subst, ◌∙◌, arith}
use Rattle.std.specs.Prelude.{codes}
use Rattle.svc_types.specs.Keys.{IsKey}
use Rattle.svc_base.specs.Text.{text_of_number}
use Rattle.serv_drill.specs.Machine.{key_of}
use Rattle.serv_drill.proofs.KeyLemmas.{numbered_is_key}
use Rattle.serv_drill.proofs.keys.numbered_key.Goals as goal

pub unreachable-requires : goal.unreachable-requires
unreachable-requires c =
    let n = c.args.number in
    let front = c.in_ok-push_bytes.ensures.pushed ∙ ap (λ t. t ++ codes "d") c.new-text.ensures.items in
    let text : c.deref.result.now ≡ key_of n =
    c.deref.ensures.value ∙ c.in_ok-push_number.ensures.pushed ∙ ap (λ t. t ++ text_of_number n) front in
    c.in-None.ensures (subst IsKey (sym text) (numbered_is_key n (omega arith)))
