use Rattle.std.proofs.Common.{◌+◌, arith}
use Rattle.svc_base.proofs.CalendarLemmas.{day_after_most}
use Rattle.svc_replay.proofs.LateLemmas.{grace_within, late_within}
use Rattle.svc_replay.proofs.cursor.late_day.Goals as goal

pub new-requires-clause-last : goal.new-requires-clause-last
new-requires-clause-last c = grace_within c.add_months-month.result c.args.terms.now.grace (omega arith)

pub returns-then-terms-le26 : goal.returns-then-terms-le26
returns-then-terms-le26 c = late_within c.args.terms.now c.args.k c.add_months-month.result c.new.result c.add_months-month.ensures (omega arith) c.new.ensures

pub add_days-requires : goal.add_days-requires
add_days-requires c = omega (arith, day_after_most c.first_day.result (c.args.terms.now.grace + 1))
