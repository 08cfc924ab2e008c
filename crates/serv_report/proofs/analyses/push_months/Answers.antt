use Rattle.std.proofs.Common.{◌∙◌}
use Rattle.serv_report.specs.EscrowText.{text_of_month_of}
use Rattle.serv_report.proofs.MonthLemmas.{months_text}
use Rattle.serv_report.proofs.analyses.push_months.Goals as goal

pub loop-place-preserved : goal.loop-place-preserved
loop-place-preserved c =
    c.in_ok-push_month.ensures.pushed ∙ months_text _ _ (text_of_month_of c.args.from c.args.analysis.now) c.loop-place.place c.loop-place-test.true c.loop-place.invariant
