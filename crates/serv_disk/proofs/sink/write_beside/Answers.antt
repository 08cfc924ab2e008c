use Rattle.std.proofs.Common.{◌∙◌}
use Rattle.serv_disk.proofs.NotedLemmas.{notes_at}
use Rattle.serv_disk.proofs.sink.write_beside.Goals as goal

pub returns-clause-noted : goal.returns-clause-noted
returns-clause-noted g c = λ s told. notes_at _ _ _ _ _ c.show.ensures.marked (rw c.show.ensures.log at (c.write_whole.ensures.noted s (c.show.ensures.held ∙ told)))
