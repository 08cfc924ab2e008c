use Rattle.std.proofs.Common.{◌≡◌, ◌∙◌, All, get_or, ap, sym, subst}
use Rattle.remit_types.specs.declared.dues.MonthDue.{MonthDue}
use Rattle.period_adjust.specs.declared.adjustment.Adjustment.{Adjustment}
use Rattle.period_adjust.specs.Sealed.{Reporting}
use Rattle.period_adjust.specs.Changes.{adjustments_of}
use Rattle.period_adjust.specs.Totals.{Change, after}
use Rattle.period_adjust.specs.Worked.{worked_reports}
use Rattle.period_adjust.proofs.SealedLemmas.{adjustments_loan}
use Rattle.period_adjust.proofs.WorkedLemmas.{months_change}
use Rattle.period_adjust_tests.proofs.reports.changed_reports.Goals as goal

pub record_change-requires : goal.record_change-requires
record_change-requires c =
    let february : MonthDue = get_or c.args.was.now 0 c.index-was-0.result in
    let march : MonthDue = get_or c.args.was.now 1 c.index-was-1.result in
    months_change c.reserve.new.self.reporting c.args.number c.args.was.now c.args.is.now february march
    (c.reserve.ensures.reporting ∙ c.in_ok-seals.ensures) (ap (get_or c.args.was.now 0) c.index-was-0.is) (ap (get_or c.args.was.now 1) c.index-was-1.is) c.requires

pub returns-clause-own : goal.returns-clause-own
returns-clause-own c =
    let february : MonthDue = get_or c.args.was.now 0 c.index-was-0.result in
    let march : MonthDue = get_or c.args.was.now 1 c.index-was-1.result in
    let before : c.reserve.new.self.reporting ≡ worked_reports february march = c.reserve.ensures.reporting ∙ c.in_ok-seals.ensures in
    let now : c.record_change.new.self.reporting ≡ after (worked_reports february march) (Change c.args.number 1 c.args.was.now c.args.is.now) =
    c.in_ok-record_change.ensures.done ∙ ap (λ (s : Reporting). after s (Change c.args.number 1 c.args.was.now c.args.is.now)) before in
    let pending : c.record_change.new.self.reporting.pending ≡ adjustments_of c.args.number 1 c.args.was.now c.args.is.now = ap (λ (s : Reporting). s.pending) now in
    subst (All (λ (a : Adjustment). a.loan ≡ 1)) (sym pending) (adjustments_loan c.args.number 1 c.args.was.now c.args.is.now)
