use Rattle.std.proofs.Common.{◌≡◌, arith, ap, ◌∙◌}
use Rattle.svc_base.specs.Calendar.{month_of}
use Rattle.svc_types.specs.declared.terms.Terms.{Terms}
use Rattle.svc_world.specs.Held.{boarded_month}
use Rattle.svc_world.specs.Reports.{is_adjusted}
use Rattle.svc_core.proofs.ReportedLemmas.{reported_is}
use Rattle.svc_core.proofs.reporting.is_reported.Goals as goal

pub returns : goal.returns
returns g c =
    let l = c.args.loan.now.held in
    let pending = c.args.seals.now.reporting.pending in
    let test = c.if-number.false in
    let month = c.number.ensures.value in
    let boarded : c.number-2.result ≡ boarded_month l = c.number-2.ensures.value ∙ c.month_of.ensures ∙ ap (λ (t : Terms). month_of t.boarded) c.terms.ensures in
    c.has_line.ensures
    ∙ reported_is pending c.args.month c.previous.result l c.carry_at-before.result c.due_at-due.result c.is_pending.result (omega (arith, test, month, boarded)) c.previous.ensures c.carry_at-before.ensures c.due_at-due.ensures (c.is_pending.ensures ∙ ap (is_adjusted pending) c.id.ensures)
