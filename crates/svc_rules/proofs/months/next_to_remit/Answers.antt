use Rattle.svc_rules.proofs.RuleLemmas.{closed_ends}
use Rattle.svc_rules.proofs.months.next_to_remit.Goals as goal

pub plus-requires : goal.plus-requires
plus-requires c = closed_ends c.args.seals.now.reporting c.in-Some.last c.reports-reports.ensures.sealed c.in-Some.ensures.closed c.requires.closed c.requires.ended
