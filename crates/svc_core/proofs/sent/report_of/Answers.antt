use Rattle.std.proofs.Common.{◌≡◌, ◌-◌, get_or, arith, sym, ap, ◌∙◌}
use Rattle.std.specs.Prelude.{Some}
use Rattle.svc_world.specs.Judging.{report_for}
use Rattle.svc_core.proofs.SentLemmas.{IsPlace, place_among}
use Rattle.svc_core.proofs.sent.report_of.Goals as goal

place : (c : goal.After-number-2) → IsPlace c.reports-reports.result.now c.args.month c.month-first.result
place c = place_among c.args.seals.now.reporting.reports c.reports-reports.result.now c.args.month c.month-first.result c.index-reports-0.result c.reports-reports.ensures.value c.reports-reports.ensures.sealed.consecutive c.requires c.month-first.ensures c.index-reports-0.is

pub overflow_sub-result : goal.overflow_sub-result
overflow_sub-result c = let from = (place c).from in omega (arith, from)

pub bounds-reports-number : goal.bounds-reports-number
bounds-reports-number c =
    let bound = (place c).bound in
    let month = c.number.ensures.value in
    let first = c.number-2.ensures.value in
    omega (arith, bound, month, first)

pub returns : goal.returns
returns c =
    let there = place_among c.args.seals.now.reporting.reports c.reports-reports.result.now c.args.month c.month-first.result c.index-reports-0.result c.reports-reports.ensures.value c.reports-reports.ensures.sealed.consecutive c.requires c.month-first.ensures c.index-reports-0.is in
    let place : c.args.month - c.month-first.result ≡ c.number.result - c.number-2.result = ap (λ n. n - c.month-first.result) (sym c.number.ensures.value) ∙ ap (λ n. c.number.result - n) (sym c.number-2.ensures.value) in
    ap (report_for c.args.month) (sym c.reports-reports.ensures.value)
    ∙ there.found c.index-reports-number.result
    ∙ ap (λ i. Some (get_or c.reports-reports.result.now i c.index-reports-number.result)) place
    ∙ ap Some (sym c.index-reports-number.is)
