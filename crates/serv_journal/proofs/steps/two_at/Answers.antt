use Rattle.std.proofs.Common.{drop, ◌∙◌}
use Rattle.serv_journal.proofs.ReadingLemmas.{part_shown, two_found}
use Rattle.serv_journal.proofs.steps.two_at.Goals as goal

pub returns-clause-number : goal.returns-clause-number
returns-clause-number g c = λ s is.
    let shown = c.bring.ensures.reading.shows s (c.bring.ensures.reading.stays.told ∙ is) in
    let bytes = c.part-bytes.ensures.bytes ∙ part_shown c.bring.new.self.bytes s 2 c.bring.new.self.at c.args.place shown.bytes c.in_ok-bring.ensures.from c.in_ok-bring.ensures.to in
    two_found c.part-bytes.result.now (drop c.args.place s) c.two_of.result c.part-bytes.ensures.count bytes c.two_of.ensures
