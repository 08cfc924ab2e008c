use Rattle.std.proofs.Common.{arith}
use Rattle.pmi_track.proofs.ScheduleLemmas.{due_by_is}
use Rattle.pmi_track.proofs.schedule.due_by.Goals as goal

pub returns-clause-count : goal.returns-clause-count
returns-clause-count c = let e = due_by_is c.args.terms.now c.args.day in omega (arith, e, c.saturating_sub.ensures, c.min.ensures)
