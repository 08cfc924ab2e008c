use Rattle.std.proofs.Common.{arith}
use Rattle.serv_journal.proofs.ReadingLemmas.{line_found}
use Rattle.serv_journal.proofs.steps.line_at.Goals as goal

pub returns-clause-found : goal.returns-clause-found
returns-clause-found g c = λ s is.
    line_found s c.args.place c.from-count.result (rw c.from-count.ensures (c.in_ok-count.ensures.number s is))
    (omega (arith, (c.requires.shows s is).size, c.size.ensures, c.two_at.ensures.reading.size, c.size-else-count-gt512.ensures, c.from-count.ensures, c.from.ensures))
