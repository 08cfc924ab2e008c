use Rattle.std.proofs.Common.{◌≡◌, ◌-◌, ◌<◌, arith, ap, ◌∙◌}
use Rattle.svc_base.specs.Calendar.{day_in_month, month_length}
use Rattle.svc_base.specs.DayLemmas.{month_length_most}
use Rattle.svc_world.specs.Desk as desk
use Rattle.svc_desk.proofs.TellingLemmas.{month_days, days_more}
use Rattle.svc_desk.proofs.lateness.days_since.Goals as goal

pub loop-last-preserved : goal.loop-last-preserved
loop-last-preserved c =
    let next = c.loop-last.next in
    let last = c.month_of-last.result in
    let lt : next < last = omega arith in
    let d : c.day-days-in-loop-last.result ≡ month_length next = c.day-days-in-loop-last.ensures.place ∙ ap day_in_month c.last_day.ensures ∙ month_days next in
    let n = c.plus-next.ensures in
    let same = ap (λ k. desk.days_of_months k (last - k)) n in
    let more = days_more next last lt in
    let most = month_length_most next in
    let before = c.loop-last.invariant.days in
    let few = c.loop-last.invariant.few in
    record { until = omega (arith, n, lt); days = omega (arith, d, same, more, before); few = omega (arith, d, most, few, n) }
