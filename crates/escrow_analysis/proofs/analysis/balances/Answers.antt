use Rattle.std.proofs.Common.{rules, ◌≡◌, ℤ, pos, ◌+ℤ◌, ◌-ℤ◌, ◌+◌, ◌<◌, length, get_or, w64, to_z, of_z, arith, ◌∙◌, below_more, get_or-set_same, get_or-set_other, ◌≢◌, length-set}
use Rattle.std.proofs.lemmas.Int.{ints}
use Rattle.std.proofs.lemmas.List.Elements.{All-from_get_or}
use Rattle.std.proofs.lemmas.List.FromFn.{fill_by_all}
use Rattle.svc_base.specs.EscrowMonths.{IsMonthPaid}
use Rattle.escrow_analysis.specs.AggregateAnalysis.{IsBalance, balance_after}
use Rattle.escrow_analysis.proofs.Balances.{balance_step}
use Rattle.escrow_analysis.proofs.analysis.balances.Goals as goal

pub loop-k-preserved : goal.loop-k-preserved
loop-k-preserved c =
    let paid : ℤ = get_or c.args.year.now c.loop-k.k (pos 0) in
    let inside : c.loop-k.k < length c.args.year.now = search rules in
    let month : IsMonthPaid paid = c.requires.months c.loop-k.k (pos 0) inside in
    let room : c.loop-k.k < length c.loop-k.balances = omega (arith, c.loop-k.invariant.twelve) in
    let new : to_z w64 (of_z w64 (to_z w64 c.loop-k.balance-bits +ℤ to_z w64 (of_z w64 (to_z w64 c.args.payment -ℤ to_z w64 (of_z w64 paid))))) ≡ to_z w64 c.loop-k.balance-bits +ℤ (pos c.args.payment -ℤ paid) = omega (arith, ints) in
    let now : to_z w64 (of_z w64 (to_z w64 c.loop-k.balance-bits +ℤ to_z w64 (of_z w64 (to_z w64 c.args.payment -ℤ to_z w64 (of_z w64 paid))))) ≡ balance_after c.args.year.now (pos c.args.opening) c.args.payment (c.loop-k.k + 1) = new ∙ balance_step c.args.year.now (pos c.args.opening) _ c.args.payment c.loop-k.k inside c.loop-k.invariant.so_far in
    record {
      so_far = now;
      low = omega (arith, ints);
      high = omega (arith, ints);
      twelve = length-set c.loop-k.balances c.loop-k.k _ ∙ c.loop-k.invariant.twelve;
      bounded = below_more _ _ (λ j h. let other : j ≢ c.loop-k.k = omega arith in rw get_or-set_other (c.loop-k.invariant.bounded j h)) (rw get_or-set_same record { low = omega (arith, ints); high = omega (arith, ints) });
      written = below_more _ _ (λ j h. let other : j ≢ c.loop-k.k = omega arith in rw get_or-set_other (c.loop-k.invariant.written j h)) (rw get_or-set_same now);
    }

pub returns-clause-value : goal.returns-clause-value
returns-clause-value c = fill_by_all (λ k. balance_after c.args.year.now (pos c.args.opening) c.args.payment (k + 1)) c.loop-k.balances 12 (pos 0) c.loop-k.invariant.twelve (λ k h. c.loop-k.invariant.written k (omega arith))

pub returns-clause-bounds : goal.returns-clause-bounds
returns-clause-bounds c = All-from_get_or IsBalance c.loop-k.balances (pos 0) (λ k h. c.loop-k.invariant.bounded k (omega arith))
