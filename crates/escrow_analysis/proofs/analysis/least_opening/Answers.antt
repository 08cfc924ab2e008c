use Rattle.std.proofs.Common.{pos, ◌+ℤ◌, ◌≤ℤ◌, ◌<◌, length, get_or, arith, rules, below_more}
use Rattle.std.proofs.lemmas.Int.{ints}
use Rattle.std.proofs.lemmas.List.Elements.{All-from_get_or}
use Rattle.escrow_analysis.specs.AggregateAnalysis.{IsBalance}
use Rattle.escrow_analysis.proofs.analysis.least_opening.Goals as goal
use Rattle.escrow_analysis.proofs.analysis.least_opening.Goals.{then-opening-balance, else-opening-balance}

pub loop-balance-preserved : goal.loop-balance-preserved
loop-balance-preserved c =
    let inside : c.loop-balance.balance-index < length c.args.trial.now = search rules in
    let here : IsBalance (get_or c.args.trial.now c.loop-balance.balance-index (pos 0)) = c.requires.trial c.loop-balance.balance-index (pos 0) inside in
    elim c.if-opening-balance.branch [
      | then-opening-balance w ↦ record {
        above = omega (arith, ints);
        high = omega (arith, ints);
        keeps = below_more _ _ (λ k h. let kept = c.loop-balance.invariant.keeps k h in omega (arith, ints)) (omega (arith, ints));
        least = λ other above all. let now = all c.loop-balance.balance-index (pos 0) inside in omega (arith, ints);
      }
      | else-opening-balance w ↦ record {
        above = omega (arith, ints);
        high = omega (arith, ints);
        keeps = below_more _ _ (λ k h. let kept = c.loop-balance.invariant.keeps k h in omega (arith, ints)) (omega (arith, ints));
        least = λ other above all. let before = c.loop-balance.invariant.least other above all in omega (arith, ints);
      }
    ]

pub returns-clause-keeps : goal.returns-clause-keeps
returns-clause-keeps c = All-from_get_or (λ balance. pos c.args.cushion ≤ℤ (pos c.loop-balance.opening +ℤ balance)) c.args.trial.now (pos 0) (λ k h. c.loop-balance.invariant.keeps k (omega arith))
