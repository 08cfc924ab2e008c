use Rattle.period_adjust.proofs.KeptLemmas.{closed_between, closed_from_first}
use Rattle.period_adjust.proofs.SealedLemmas.{closed_to_last}
use Rattle.period_adjust.proofs.law.closed_months_follow.Goals as goal

pub returns-clause-closed : goal.returns-clause-closed
returns-clause-closed c s first last month are begin end low high = closed_between s.reports first last month are.consecutive begin end low high

pub returns-clause-from : goal.returns-clause-from
returns-clause-from c s first month are begin closed = closed_from_first s.reports first month are.consecutive begin closed

pub returns-clause-to : goal.returns-clause-to
returns-clause-to c s last month are end closed = closed_to_last s last month are end closed
