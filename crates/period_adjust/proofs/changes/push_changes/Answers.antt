use Rattle.std.proofs.Common.{◌+◌, ◌<◌, ◌++◌, List, length, drop, arith, ap, sym, ◌∙◌, subst, append_assoc, length-append}
use Rattle.period_adjust.specs.declared.adjustment.Adjustment.{Adjustment}
use Rattle.period_adjust.specs.Pending.{SumsFit}
use Rattle.period_adjust.specs.Changes.{change_of, adjustments_of}
use Rattle.period_adjust.proofs.ChangesLemmas.{adjustments_of-step}
use Rattle.period_adjust.proofs.RunningLemmas.{fits_front}
use Rattle.period_adjust.proofs.changes.push_changes.Goals as goal

pub push_change-requires-clause-fits : goal.push_change-requires-clause-fits
push_change-requires-clause-fits c =
    let here : c.loop-i.i < length c.args.before.now = omega arith in
    let there : c.loop-i.i < length c.args.after.now = omega (arith, c.requires.months) in
    let step = adjustments_of-step c.args.number c.args.loan c.args.before.now c.args.after.now c.loop-i.i c.index-before-i.result c.index-after-i.result here there c.index-before-i.is c.index-after-i.is in
    let one : List Adjustment = change_of c.args.number c.args.loan c.index-before-i.result c.index-after-i.result in
    let rest : List Adjustment = adjustments_of c.args.number c.args.loan (drop (c.loop-i.i + 1) c.args.before.now) (drop (c.loop-i.i + 1) c.args.after.now) in
    let whole = sym c.loop-i.invariant.adjustments ∙ ap (λ (xs : List Adjustment). c.loop-i.pending.adjustments ++ xs) step ∙ sym (append_assoc c.loop-i.pending.adjustments one rest) in
    fits_front (c.loop-i.pending.adjustments ++ one) rest (subst SumsFit whole c.requires.fits)

pub push_change-requires-clause-room : goal.push_change-requires-clause-room
push_change-requires-clause-room c =
    let here : c.loop-i.i < length c.args.before.now = omega arith in
    let there : c.loop-i.i < length c.args.after.now = omega (arith, c.requires.months) in
    let step = adjustments_of-step c.args.number c.args.loan c.args.before.now c.args.after.now c.loop-i.i c.index-before-i.result c.index-after-i.result here there c.index-before-i.is c.index-after-i.is in
    let many = ap length step ∙ length-append (change_of c.args.number c.args.loan c.index-before-i.result c.index-after-i.result) (adjustments_of c.args.number c.args.loan (drop (c.loop-i.i + 1) c.args.before.now) (drop (c.loop-i.i + 1) c.args.after.now)) in
    omega arith

pub loop-i-preserved : goal.loop-i-preserved
loop-i-preserved c =
    let here : c.loop-i.i < length c.args.before.now = omega arith in
    let there : c.loop-i.i < length c.args.after.now = omega (arith, c.requires.months) in
    let step = adjustments_of-step c.args.number c.args.loan c.args.before.now c.args.after.now c.loop-i.i c.index-before-i.result c.index-after-i.result here there c.index-before-i.is c.index-after-i.is in
    let one : List Adjustment = change_of c.args.number c.args.loan c.index-before-i.result c.index-after-i.result in
    let rest : List Adjustment = adjustments_of c.args.number c.args.loan (drop (c.loop-i.i + 1) c.args.before.now) (drop (c.loop-i.i + 1) c.args.after.now) in
    let many = ap length step ∙ length-append one rest in
    record {
      adjustments =
          ap (λ (xs : List Adjustment). xs ++ rest) c.push_change.ensures.adjustments
          ∙ append_assoc c.loop-i.pending.adjustments one rest
          ∙ ap (λ (xs : List Adjustment). c.loop-i.pending.adjustments ++ xs) (sym step)
          ∙ c.loop-i.invariant.adjustments;
      room = omega arith;
    }
