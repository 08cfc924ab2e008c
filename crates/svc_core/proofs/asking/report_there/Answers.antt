use Rattle.std.proofs.Common.{◌≡◌, ◌-◌, get_or, arith, sym, ap, ◌∙◌}
use Rattle.std.specs.Prelude.{Some}
use Rattle.svc_core.proofs.AskLemmas.{report_stands}
use Rattle.svc_core.proofs.asking.report_there.Goals as goal

pub bounds-reports-number : goal.bounds-reports-number
bounds-reports-number c =
    let q = c.requires in
    let stands = report_stands c.args.reports.now c.index-reports-0.result c.args.month c.index-reports-0.result q.consecutive q.closed q.last q.first c.index-reports-0.is in
    let within = stands.1 in
    let month = c.number.ensures.value in
    let before = c.number-2.ensures.value in
    let first = c.month-first.ensures in
    omega (arith, within, month, before, first)

pub returns : goal.returns
returns c =
    let q = c.requires in
    let rs = c.args.reports.now in
    let d = c.index-reports-number.result in
    let stands = report_stands rs c.index-reports-0.result c.args.month d q.consecutive q.closed q.last q.first c.index-reports-0.is in
    let month = c.number.ensures.value in
    let before = c.number-2.ensures.value in
    let first = c.month-first.ensures in
    let place : c.args.month - c.index-reports-0.result.month ≡ c.number.result - c.number-2.result = omega (arith, month, before, first) in
    stands.0 ∙ ap (λ i. Some (get_or rs i d)) place ∙ ap (λ r. Some r) (sym c.index-reports-number.is)
