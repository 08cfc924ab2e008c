use Rattle.std.proofs.Common.{◌≡◌, FitsSigned, w64, arith}
use Rattle.std.proofs.lemmas.Int.{ints, clamps, to_z-of_z}
use Rattle.svc_base.specs.Money.{month_interest}
use Rattle.svc_base.proofs.MoneyLemmas.{month_interest_low}
use Rattle.svc_types.specs.LevelPayment.{level_principal}
use Rattle.pmi_track.proofs.schedule.level_principal.Goals as goal

pub overflow_sub-terms : goal.overflow_sub-terms
overflow_sub-terms c = omega (arith, ints, month_interest_low c.args.terms.now.principal c.args.terms.now.rate)

pub returns : goal.returns
unfolding level_principal
returns c =
    let fits : FitsSigned w64 c.args.balance = c.ranges.balance in
    let interest : c.month_interest-interest.result ≡ month_interest c.args.balance c.args.terms.now.rate = simp to_z-of_z at c.month_interest-interest.ensures.value in
    omega (arith, ints, clamps, c.min.ensures.value, month_interest_low c.args.terms.now.principal c.args.terms.now.rate)
