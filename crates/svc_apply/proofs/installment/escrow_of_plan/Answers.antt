use Rattle.std.proofs.Common.{◌≡◌, FitsSigned, w64, arith}
use Rattle.std.proofs.lemmas.Int.{ints, clamps, to_z-of_z}
use Rattle.svc_spec.specs.Installments.{escrow_of_plan, asked}
use Rattle.svc_apply.proofs.installment.escrow_of_plan.Goals as goal

pub returns : goal.returns
unfolding escrow_of_plan
returns c =
    let plan = c.args.plan.now in
    let m = c.args.month in
    let fs : FitsSigned w64 plan.short = omega (arith, ints) in
    let fd : FitsSigned w64 plan.deficient = omega (arith, ints) in
    let fc : FitsSigned w64 plan.credit = omega (arith, ints) in
    let short : c.asked-short.result ≡ asked plan.start plan.short_months m plan.short = simp to_z-of_z at c.asked-short.ensures.value in
    let deficient : c.asked-deficient.result ≡ asked plan.start plan.deficient_months m plan.deficient = simp to_z-of_z at c.asked-deficient.ensures.value in
    let credit : c.asked-credit.result ≡ asked plan.start 12 m plan.credit = simp to_z-of_z at c.asked-credit.ensures.value in
    omega (arith, ints, clamps, c.max.ensures.value)
