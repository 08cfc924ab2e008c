use Rattle.std.proofs.Common.{drop, ◌∙◌}
use Rattle.serv_journal.proofs.ReadingLemmas.{part_shown, four_found}
use Rattle.serv_journal.proofs.steps.four_at.Goals as goal

pub returns-clause-number : goal.returns-clause-number
returns-clause-number g c = λ s is.
    let shown = c.bring.ensures.reading.shows s (c.bring.ensures.reading.stays.told ∙ is) in
    let bytes = c.part-bytes.ensures.bytes ∙ part_shown c.bring.new.self.bytes s 4 c.bring.new.self.at c.args.place shown.bytes c.in_ok-bring.ensures.from c.in_ok-bring.ensures.to in
    four_found c.part-bytes.result.now (drop c.args.place s) c.four_of.result c.part-bytes.ensures.count bytes c.four_of.ensures
