use Rattle.std.proofs.Common.{◌≡◌, ◌+◌, ◌-◌, ◌<◌, ◌≤◌, arith}
use Rattle.svc_base.specs.Calendar.{day_after, day_in_month, month_length, month_of, first_day, IsDay}
use Rattle.svc_base.proofs.CalendarLemmas.{day_after_within, day_after_beyond, day_after_least}
use Rattle.svc_base.proofs.civil.+add_days.Goals as goal

pub overflow_add-day : goal.overflow_add-day
overflow_add-day t c = omega (arith, day_after_least c.args.day c.args.n)

pub overflow_add-day-2 : goal.overflow_add-day-2
overflow_add-day-2 t c = omega (arith, day_after_least c.args.day c.args.n)

pub returns-then-day-n : goal.returns-then-day-n
returns-then-day-n t c =
    let length : c.month_length-length.result ≡ month_length (month_of c.args.day) = cc in
    let inside : day_in_month c.args.day + c.args.n ≤ month_length (month_of c.args.day) = omega arith in
    omega (arith, day_after_within c.args.day c.args.n inside)

pub plus-requires : goal.plus-requires
plus-requires t c =
    let length : c.month_length-length.result ≡ month_length (month_of c.args.day) = cc in
    let exists : IsDay c.args.day = c.day.ensures.exists in
    let past : month_length (month_of c.args.day) < day_in_month c.args.day + c.args.n = omega arith in
    let later = day_after_beyond c.args.day c.args.n exists past in
    let least = day_after_least (first_day (month_of c.args.day + 1)) (day_in_month c.args.day + c.args.n - month_length (month_of c.args.day) - 1) in
    omega arith

pub add_days-requires : goal.add_days-requires
add_days-requires t c =
    let length : c.month_length-length.result ≡ month_length (month_of c.args.day) = cc in
    let exists : IsDay c.args.day = c.day.ensures.exists in
    let past : month_length (month_of c.args.day) < day_in_month c.args.day + c.args.n = omega arith in
    let later = day_after_beyond c.args.day c.args.n exists past in
    let left : c.day-2.result + c.args.n - c.month_length-length.result - 1 ≡ day_in_month c.args.day + c.args.n - month_length (month_of c.args.day) - 1 = omega arith in
    let first : c.first_day.result ≡ first_day (month_of c.args.day + 1) = omega arith in
    let same : day_after c.first_day.result (c.day-2.result + c.args.n - c.month_length-length.result - 1) ≡ day_after c.args.day c.args.n = cc in
    (omega arith, omega arith)

pub returns : goal.returns
returns t c =
    let length : c.month_length-length.result ≡ month_length (month_of c.args.day) = cc in
    let exists : IsDay c.args.day = c.day.ensures.exists in
    let past : month_length (month_of c.args.day) < day_in_month c.args.day + c.args.n = omega arith in
    let later = day_after_beyond c.args.day c.args.n exists past in
    let left : c.day-2.result + c.args.n - c.month_length-length.result - 1 ≡ day_in_month c.args.day + c.args.n - month_length (month_of c.args.day) - 1 = omega arith in
    let first : c.first_day.result ≡ first_day (month_of c.args.day + 1) = omega arith in
    cc
