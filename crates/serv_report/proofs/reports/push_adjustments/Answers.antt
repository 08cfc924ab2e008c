use Rattle.std.proofs.Common.{rules}
use Rattle.serv_line.specs.Pushed.{Keeps}
use Rattle.serv_line.proofs.KeepLemmas.{keeps_before}
use Rattle.serv_report.proofs.reports.push_adjustments.Goals as goal

pub returns-in_err-push_adjustment-clause-kept : goal.returns-in_err-push_adjustment-clause-kept
returns-in_err-push_adjustment-clause-kept c =
    let kept : Keeps c.args.out.now.items c.push_adjustment.new.out.items = keeps_before _ _ _ _ c.loop-adjustment.invariant c.in_err-push_adjustment.ensures.kept in
    search rules
