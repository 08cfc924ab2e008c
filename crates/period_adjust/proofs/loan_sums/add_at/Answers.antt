use Rattle.std.proofs.Common.{ℤ, ◌+ℤ◌, FitsSigned, subst}
use Rattle.std.specs.Int.{w64}
use Rattle.period_adjust.specs.Sums.{Interest, Principal}
use Rattle.period_adjust.proofs.RunningLemmas.{running-found, running-set, kept-set}
use Rattle.period_adjust.proofs.loan_sums.add_at.Goals as goal

pub with_adjustment-requires-clause-interest : goal.with_adjustment-requires-clause-interest
with_adjustment-requires-clause-interest c =
    subst (λ (z : ℤ). FitsSigned w64 (z +ℤ c.args.adjustment.now.interest))
    (running-found Interest c.args.sums.now c.args.adjustment.now.loan c.args.place _ c.requires.rising c.requires.place.bound (c.requires.place.own _))
    (c.requires.fits Interest)

pub with_adjustment-requires-clause-principal : goal.with_adjustment-requires-clause-principal
with_adjustment-requires-clause-principal c =
    subst (λ (z : ℤ). FitsSigned w64 (z +ℤ c.args.adjustment.now.principal))
    (running-found Principal c.args.sums.now c.args.adjustment.now.loan c.args.place _ c.requires.rising c.requires.place.bound (c.requires.place.own _))
    (c.requires.fits Principal)

pub returns-clause-total : goal.returns-clause-total
returns-clause-total c part loan =
    running-set part loan c.args.adjustment.now c.args.sums.now c.args.place _ c.with_adjustment.result c.requires.place c.with_adjustment.ensures

pub returns-clause-there : goal.returns-clause-there
returns-clause-there c loan =
    kept-set loan c.args.adjustment.now c.args.sums.now c.args.place _ c.with_adjustment.result c.with_adjustment.ensures
