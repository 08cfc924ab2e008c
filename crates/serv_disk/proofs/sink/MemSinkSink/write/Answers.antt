use Rattle.std.proofs.Common.{ℕ, List, ap, ◌∙◌, subst}
use Rattle.std.specs.Prelude.{Contains}
use Rattle.serv_disk.specs.Objects.{SinkState}
use Rattle.serv_disk.proofs.sink.MemSinkSink.write.Goals as goal

pub returns-then-is_among-clause-with_room : goal.returns-then-is_among-clause-with_room
returns-then-is_among-clause-with_room c = λ room failed.
    let P : List ℕ → Type 0 = λ fails. Contains fails c.saturating_add-self-inside.result in
    subst P (c.deref.ensures.value ∙ ap (λ (s : SinkState). s.fails) c.self.view_is) (c.is_among.ensures.0 c.if-is_among.true)
