use Rattle.std.proofs.Common.{◌≡◌, ◌+◌, ◌++◌, List, length, ap, sym, subst, arith}
use Rattle.period_adjust.specs.declared.adjustment.Adjustment.{Adjustment}
use Rattle.period_adjust.specs.Sealed.{State, Reporting, reporting}
use Rattle.period_adjust.specs.Pending.{SumsFit}
use Rattle.period_adjust.specs.Changes.{adjustments_of}
use Rattle.period_adjust.specs.Conditions.{MayChange}
use Rattle.period_adjust.proofs.ChangesLemmas.{length-adjustments_of}
use Rattle.period_adjust.proofs.SealedLemmas.{sealed_change, sums_fit}
use Rattle.period_adjust.proofs.StateLemmas.{kept_changed}
use Rattle.period_adjust.proofs.seals.Seals.record_change.Goals as goal

pub invariant_of-self-2 : goal.invariant_of-self-2
invariant_of-self-2 c =
    let s : Reporting = reporting c.self.inside.reports.items c.self.inside.pending.adjustments in
    let same : c.args.self.now.reporting ≡ s = sym (ap (λ (x : State). x.reporting) c.self.view_is) in
    let may : MayChange s c.args.number c.args.loan c.args.before.now c.args.after.now =
    subst (λ (b : Reporting). MayChange b c.args.number c.args.loan c.args.before.now c.args.after.now) same c.requires in
    let count : c.count_changes-count.result ≡ length (adjustments_of c.args.number c.args.loan c.args.before.now c.args.after.now) =
    omega (arith, c.count_changes-count.ensures, length-adjustments_of c.args.number c.args.loan c.args.before.now c.args.after.now) in
    kept_changed s c.args.number c.args.loan c.args.before.now c.args.after.now c.self.inside.lines.items c.self.inside.held c.self.inside.first c.self.inside.closed c.self.inside.remitted _ _
    c.self.invariant may (cc) (ap (λ n. c.self.inside.held + n) count)

pub push_changes-requires-clause-fits : goal.push_changes-requires-clause-fits
push_changes-requires-clause-fits c =
    let s : Reporting = reporting c.self.inside.reports.items c.self.inside.pending.adjustments in
    let same : c.args.self.now.reporting ≡ s = sym (ap (λ (x : State). x.reporting) c.self.view_is) in
    let may : MayChange s c.args.number c.args.loan c.args.before.now c.args.after.now =
    subst (λ (b : Reporting). MayChange b c.args.number c.args.loan c.args.before.now c.args.after.now) same c.requires in
    let fits = sums_fit _ _ (sealed_change s c.args.number c.args.loan c.args.before.now c.args.after.now c.self.invariant.sealed may) in
    subst (λ (xs : List Adjustment). SumsFit (xs ++ adjustments_of c.args.number c.args.loan c.args.before.now c.args.after.now)) (sym c.reserve.ensures.adjustments) fits
