use Rattle.period_adjust_tests.proofs.ManyLemmas.{empty_dues}
use Rattle.period_adjust_tests.proofs.many.close_next.Goals as goal

pub close-requires-clause-dues : goal.close-requires-clause-dues
close-requires-clause-dues c = empty_dues c.args.seals.now.reporting.pending c.args.lines.now c.requires.lines c.requires.given.owned
