use Rattle.svc_base.proofs.TextLemmas.{on_none, no_day_dash, no_month, no_such_day, day_joined}
use Rattle.std.proofs.Common.{refl}
use Rattle.svc_base.proofs.reading.read_civil_day.Goals as goal

pub returns-in_err-month-clause-none : goal.returns-in_err-month-clause-none
returns-in_err-month-clause-none c = on_none _ (no_day_dash c.args.text.now c.in_err-month.ensures.none)

pub returns-in_err-month-2-clause-none : goal.returns-in_err-month-2-clause-none
returns-in_err-month-2-clause-none c =
    let split = c.in_ok-month.ensures.read in
    on_none _ (no_month c.args.text.now c.in_ok-month.month.now c.in_ok-month.day split.0 split.1 c.in_err-month-2.ensures.none)

pub returns-then-not-is_date-clause-none : goal.returns-then-not-is_date-clause-none
returns-then-not-is_date-clause-none c =
    let split = c.in_ok-month.ensures.read in
    let month = c.in_ok-month-2.ensures.read in
    no_such_day c.args.text.now c.in_ok-month.month.now c.in_ok-month-2.month c.in_ok-month.day month.0 split.0 split.1 month.1 c.if-not-is_date.ensures.1

pub returns-clause-read : goal.returns-clause-read
returns-clause-read c =
    let split = c.in_ok-month.ensures.read in
    let month = c.in_ok-month-2.ensures.read in
    let exists = c.if-not-is_date.ensures.0 refl in
    day_joined c.args.text.now c.in_ok-month.month.now c.in_ok-month-2.month c.in_ok-month.day month.0 exists.0 exists.1 month.1 split.1
