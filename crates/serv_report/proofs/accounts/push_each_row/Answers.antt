use Rattle.std.proofs.Common.{rules}
use Rattle.serv_line.specs.Pushed.{Keeps}
use Rattle.serv_line.proofs.KeepLemmas.{keeps_before}
use Rattle.serv_report.proofs.accounts.push_each_row.Goals as goal

pub returns-in_err-push_row-clause-kept : goal.returns-in_err-push_row-clause-kept
returns-in_err-push_row-clause-kept c =
    let kept : Keeps c.args.out.now.items c.push_row.new.out.items = keeps_before _ _ _ _ c.loop-row.invariant c.in_err-push_row.ensures.kept in
    search rules
