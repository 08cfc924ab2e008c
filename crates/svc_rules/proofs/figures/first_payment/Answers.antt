use Rattle.std.proofs.Common.{◌≡◌, FitsSigned, w64, arith}
use Rattle.std.proofs.lemmas.Int.{ints, clamps, to_z-of_z}
use Rattle.svc_spec.specs.Installments.{asked, escrow_of_plan}
use Rattle.svc_rules.proofs.figures.first_payment.Goals as goal

pub returns : goal.returns
unfolding escrow_of_plan
returns c =
    let plan = c.args.plan.now in
    let m = plan.start in
    let fs : FitsSigned w64 plan.short = omega (arith, ints) in
    let fd : FitsSigned w64 plan.deficient = omega (arith, ints) in
    let fc : FitsSigned w64 plan.credit = omega (arith, ints) in
    let short : c.asked_first-short.result ≡ asked m plan.short_months m plan.short = simp to_z-of_z at (c.asked_first-short.ensures.value m) in
    let deficient : c.asked_first-deficient.result ≡ asked m plan.deficient_months m plan.deficient = simp to_z-of_z at (c.asked_first-deficient.ensures.value m) in
    let credit : c.asked_first-credit.result ≡ asked m 12 m plan.credit = simp to_z-of_z at (c.asked_first-credit.ensures.value m) in
    omega (arith, ints, clamps, c.max.ensures.value)
