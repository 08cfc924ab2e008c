use Rattle.std.proofs.Common.{◌≡◌, ◌∙◌}
use Rattle.serv_links.specs.Doors.{text_of_summary}
use Rattle.serv_texts.proofs.WrittenLemmas.{writes_of, writes_nothing}
use Rattle.serv_top.proofs.over_doors.write_counts.Goals as goal

pub returns-in-Ok-clause-writes : goal.returns-in-Ok-clause-writes
returns-in-Ok-clause-writes g c =
    writes_of c.write_text.result (λ text. text ≡ text_of_summary c.args.summary.now) c.deref.result.now _ _ (c.deref.ensures.value ∙ c.in-Ok.ensures) c.write_text.ensures.writes

pub returns-in-Err-clause-writes : goal.returns-in-Err-clause-writes
returns-in-Err-clause-writes g c = writes_nothing (λ text. text ≡ text_of_summary c.args.summary.now) _
