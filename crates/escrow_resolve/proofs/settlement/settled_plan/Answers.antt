use Rattle.std.proofs.Common.{rules, arith, SFits, w64}
use Rattle.std.proofs.lemmas.Int.{ints, to_z-of_z}
use Rattle.escrow_resolve.proofs.SettledFields.{plan_fields, settled_fields}
use Rattle.escrow_resolve.proofs.settlement.settled_plan.Goals as goal

pub returns : goal.returns
returns c =
    let surplus : SFits w64 c.args.split.now.surplus = search rules in
    let short : SFits w64 c.args.split.now.short = search rules in
    let deficient : SFits w64 c.args.split.now.deficient = search rules in
    let credit = simp to_z-of_z at c.credited.ensures in
    let asked = simp to_z-of_z at c.monthly.ensures in
    let asked' = simp to_z-of_z at c.monthly-2.ensures in
    let refund = simp to_z-of_z at c.refunded.ensures in
    let within = simp to_z-of_z at c.within30.ensures.value in
    let within' = simp to_z-of_z at c.within30-2.ensures.value in
    settled_fields _ _ _ _ _ _
    (plan_fields _ _ _ _ _ _ _ _ _ _ _ _ _ (omega (arith, ints)) (omega (arith, ints)) (omega (arith, ints)) c.months.ensures (omega (arith, ints)) c.months-2.ensures)
    (omega (arith, ints))
    (omega (arith, ints))
