use Rattle.std.proofs.Common.{rules}
use Rattle.serv_line.specs.Pushed.{Keeps}
use Rattle.serv_line.proofs.KeepLemmas.{keeps_before}
use Rattle.serv_report.proofs.loans.push_bills.Goals as goal

pub returns-in_err-push_bill-clause-kept : goal.returns-in_err-push_bill-clause-kept
returns-in_err-push_bill-clause-kept c =
    let kept : Keeps c.args.out.now.items c.push_bill.new.out.items = keeps_before _ _ _ _ c.loop-line.invariant c.in_err-push_bill.ensures.kept in
    search rules
