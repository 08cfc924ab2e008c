use Rattle.svc_base.proofs.TextLemmas.{other_day}
use Rattle.svc_base.proofs.reading.read_day.Goals as goal

pub returns-then-not-is_read_year-clause-none : goal.returns-then-not-is_read_year-clause-none
returns-then-not-is_read_year-clause-none c =
    let civil = c.in-Some.ensures.read in
    other_day c.args.text.now c.in-Some.day civil.0 civil.1 c.if-not-is_read_year.ensures.outside
