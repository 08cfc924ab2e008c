use Rattle.std.proofs.Common.{◌≡◌, pos, map, w64, to_z, ◌∙◌, subst, sym, arith, ap}
use Rattle.std.proofs.lemmas.Int.{ints}
use Rattle.escrow_analysis.specs.AggregateAnalysis.{IsLeastOpening, months, target}
use Rattle.escrow_analysis.proofs.Balances.{trials_are, targets_are, least_opening_is}
use Rattle.escrow_analysis.proofs.analysis.analyse.Goals as goal

pub returns-clause-trial : goal.returns-clause-trial
returns-clause-trial c = c.balances-trial.ensures.value ∙ trials_are c.args.year.now c.total_of-total.result c.total_of-total.ensures.value

pub returns-clause-opening : goal.returns-clause-opening
returns-clause-opening c =
    let same : to_z w64 c.least_opening-opening.result ≡ pos c.least_opening-opening.result = omega (arith, ints) in
    let trials = c.balances-trial.ensures.value ∙ trials_are c.args.year.now c.total_of-total.result c.total_of-total.ensures.value in
    subst (IsLeastOpening c.args.year.now c.args.cushion_months) (sym same) (subst (λ n. IsLeastOpening c.args.year.now n (pos c.least_opening-opening.result)) c.from.ensures (least_opening_is c.args.year.now c.balances-trial.result c.from.result c.total_of-total.result c.least_opening-opening.result c.total_of-total.ensures.value c.told-year trials c.least_opening-opening.ensures.keeps c.least_opening-opening.ensures.least))

pub returns-clause-target : goal.returns-clause-target
returns-clause-target c =
    let same : to_z w64 c.least_opening-opening.result ≡ pos c.least_opening-opening.result = omega (arith, ints) in
    c.balances.ensures.value ∙ targets_are c.args.year.now (pos c.least_opening-opening.result) c.total_of-total.result c.total_of-total.ensures.value ∙ ap (λ o. map (target c.args.year.now o) months) (sym same)
