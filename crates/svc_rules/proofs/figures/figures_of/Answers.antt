use Rattle.std.proofs.Common.{w64, ap, ◌∙◌}
use Rattle.std.proofs.lemmas.Int.{to_z-of_z}
use Rattle.svc_spec.specs.Installments.{escrow_of_plan}
use Rattle.svc_rules.proofs.FiguresLemmas.{entered_same, same_with}
use Rattle.svc_rules.proofs.figures.figures_of.Goals as goal

pub returns : goal.returns
returns g c =
    let l = c.args.loan.now.held in
    let s = c.args.settled.now in
    let pay = c.first_payment-pay.result in
    c.figures_with.ensures
    ∙ same_with l (entered_same s.refund c.requires.act.0) (entered_same s.within30 c.requires.act.1)
    (to_z-of_z w64 pay (record { sfits = c.first_payment-pay.type_inv }) ∙ c.first_payment-pay.ensures ∙ ap (escrow_of_plan s.plan) c.requires.start)
