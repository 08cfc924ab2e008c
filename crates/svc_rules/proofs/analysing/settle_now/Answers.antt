use Rattle.std.proofs.Common.{◌≡◌, Some, None, IfErr, OnOk, w64, to_z, of_z, subst, ◌∙◌}
use Rattle.svc_rules.proofs.AnalysingLemmas.{fault_same, amount_same, low_enough}
use Rattle.svc_rules.proofs.analysing.settle_now.Goals as goal

pub returns-clause-fault : goal.returns-clause-fault
returns-clause-fault g c =
    let l = c.args.loan.now.held in
    let b = c.analysis_from-analysis.result.base in
    let e = c.analysis_from-analysis.ensures in
    let same : to_z w64 (of_z w64 b) ≡ b = amount_same b e.base_low (low_enough b e.base_high) in
    subst (λ o. IfErr c.settle.result (λ f. o ≡ Some f)) (fault_same l c.args.plan.now c.parts_of-parts.result (to_z w64 (of_z w64 b)) c.is_current_now.result c.parts_of-parts.ensures.value (same ∙ e.base) c.is_current_now.ensures) c.settle.ensures.fault

pub returns-clause-lawful : goal.returns-clause-lawful
returns-clause-lawful g c =
    let l = c.args.loan.now.held in
    let b = c.analysis_from-analysis.result.base in
    let e = c.analysis_from-analysis.ensures in
    let same : to_z w64 (of_z w64 b) ≡ b = amount_same b e.base_low (low_enough b e.base_high) in
    subst (λ o. OnOk c.settle.result (o ≡ None)) (fault_same l c.args.plan.now c.parts_of-parts.result (to_z w64 (of_z w64 b)) c.is_current_now.result c.parts_of-parts.ensures.value (same ∙ e.base) c.is_current_now.ensures) c.settle.ensures.lawful
