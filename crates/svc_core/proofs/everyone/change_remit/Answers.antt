use Rattle.std.proofs.Common.{◌≡◌, List, sym, subst, ◌∙◌}
use Rattle.std.specs.Prelude.{true, is_some}
use Rattle.std.specs.List.{All}
use Rattle.period_adjust.specs.declared.report_line.ReportLine.{ReportLine}
use Rattle.period_adjust.specs.Sealed.{State}
use Rattle.period_adjust.specs.Conditions.{IsClosed}
use Rattle.svc_loan.specs.Loans.{find_kept}
use Rattle.svc_core.specs.Reported.{AreSent}
use Rattle.svc_core.specs.State.{world_of}
use Rattle.svc_core.proofs.SentWorlds.{IsSending, remitting, remit_found, remit_sending, remit_world, remit_kept, remit_extra}
use Rattle.svc_core.proofs.everyone.change_remit.Given.{Over}
use Rattle.svc_core.proofs.everyone.change_remit.Goals as goal

pub remit_month-requires : goal.remit_month-requires
remit_month-requires g c = (remitting c.args.count c.args.month _ c.requires.state.world c.requires.fresh).fault

pub report_of-report-requires : goal.report_of-report-requires
report_of-report-requires g c =
    subst (λ (s : State). IsClosed s.reporting.reports c.args.month) (sym c.remit_month.ensures)
    (remitting c.args.count c.args.month (world_of c.args.state.now.today c.args.state.now.loans c.args.state.now.seals) c.requires.state.world c.requires.fresh).closed

sending : (g : Over) (c : goal.After-lines g) → IsSending c.args.state.now.loans c.report_of-report.result.now
sending g c =
    remit_sending c.args.count c.args.month c.args.state.now.today c.args.state.now.loans c.args.state.now.seals c.report_of-report.result.now c.requires.state
    (remit_found c.args.month c.args.state.now.seals c.remit_month.new.seals c.report_of-report.result.now c.remit_month.ensures c.report_of-report.ensures)

pub remit_lines-requires-clause-lines : goal.remit_lines-requires-clause-lines
remit_lines-requires-clause-lines g c = subst AreSent (sym c.lines.ensures) (sending g c).sent

pub remit_lines-requires-clause-there : goal.remit_lines-requires-clause-there
remit_lines-requires-clause-there g c =
    subst (λ (ls : List ReportLine). All (λ (l : ReportLine). is_some (find_kept l.loan c.args.state.now.loans.loans) ≡ true) ls) (sym c.lines.ensures) (sending g c).there

pub remit_lines-requires-clause-small : goal.remit_lines-requires-clause-small
remit_lines-requires-clause-small g c = (sending g c).small

pub remitted_extra-requires : goal.remitted_extra-requires
remitted_extra-requires g c =
    (remit_sending c.args.count c.args.month c.args.state.now.today c.args.state.now.loans c.args.state.now.seals c.report_of-report.result.now c.requires.state
    (remit_found c.args.month c.args.state.now.seals c.remit_month.new.seals c.report_of-report.result.now c.remit_month.ensures c.report_of-report.ensures)).sent

pub returns-clause-world : goal.returns-clause-world
returns-clause-world g c = remit_world c.args.count c.args.month c.args.state.now.today c.args.state.now.loans c.remit_lines.new.loans c.args.state.now.seals c.remit_month.new.seals c.requires.state c.remit_month.ensures c.remit_lines.ensures.held

pub returns-clause-kept : goal.returns-clause-kept
returns-clause-kept g c =
    let s = c.args.state.now in
    let r = c.report_of-report.result.now in
    remit_kept c.args.count c.args.month s.today s.loans c.remit_lines.new.loans s.seals c.remit_month.new.seals r c.requires.state
    (remitting c.args.count c.args.month (world_of s.today s.loans s.seals) c.requires.state.world c.requires.fresh)
    (remit_found c.args.month s.seals c.remit_month.new.seals r c.remit_month.ensures c.report_of-report.ensures)
    c.remit_month.ensures c.remit_lines.ensures.held c.remit_lines.ensures.closed
    (rw c.lines.ensures at c.remit_lines.ensures.remitted)

pub returns-clause-extra : goal.returns-clause-extra
returns-clause-extra g c =
    let s = c.args.state.now in
    let r = c.report_of-report.result.now in
    c.remitted_extra.ensures ∙ remit_extra c.args.count c.args.month (world_of s.today s.loans s.seals) r (remit_found c.args.month s.seals c.remit_month.new.seals r c.remit_month.ensures c.report_of-report.ensures)
