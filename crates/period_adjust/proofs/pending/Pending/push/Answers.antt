use Rattle.std.proofs.Common.{◌≡◌, [], ◌∷◌, ◌++◌, List, ap, sym, subst}
use Rattle.period_adjust.specs.declared.adjustment.Adjustment.{Adjustment}
use Rattle.period_adjust.specs.Pending.{PendingList, AreRunning, SumsFit}
use Rattle.period_adjust.proofs.RunningLemmas.{push_fits, push_running}
use Rattle.period_adjust.proofs.pending.Pending.push.Goals as goal

pub add-requires-clause-fits : goal.add-requires-clause-fits
add-requires-clause-fits c part =
    let same : c.self.inside.adjustments.items ≡ c.args.self.now.adjustments = ap (λ (x : PendingList). x.adjustments) c.self.view_is in
    push_fits c.self.inside.adjustments.items c.args.adjustment c.self.inside.sums.items part c.self.invariant
    (subst (λ (xs : List Adjustment). SumsFit (xs ++ c.args.adjustment ∷ [])) (sym same) c.requires.fits)

pub invariant_of-self : goal.invariant_of-self
invariant_of-self c =
    subst (λ (xs : List Adjustment). AreRunning xs c.add.new.sums.items) (sym c.push_reserved.ensures.items)
    (push_running c.self.inside.adjustments.items c.args.adjustment c.self.inside.sums.items c.add.new.sums.items c.self.invariant c.add.ensures.rising c.add.ensures.total c.add.ensures.there)
