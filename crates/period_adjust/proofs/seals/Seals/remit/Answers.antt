use Rattle.std.proofs.Common.{◌≡◌, ◌≤◌, Some, arith, rules}
use Rattle.period_adjust.specs.Sealed.{Reporting, reporting}
use Rattle.period_adjust.proofs.StateLemmas.{kept_remit, remitted_from_first}
use Rattle.period_adjust.proofs.seals.Seals.remit.Goals as goal
use Rattle.period_adjust.proofs.seals.Seals.remit.Goals.{in-Some, in-None}

pub invariant_of-self : goal.invariant_of-self
invariant_of-self c =
    let s : Reporting = reporting c.self.inside.reports.items c.self.inside.pending.adjustments in
    let first : c.self.inside.first ≡ Some c.in-Some-Some.first = cc in
    let closed : c.self.inside.closed ≡ Some c.in-Some-Some.last = cc in
    let high : c.args.month ≤ c.in-Some-Some.last = search rules in
    let next : c.args.month ≡ c.match-self-3.expected = search rules in
    let low : c.in-Some-Some.first ≤ c.args.month = elim c.match-self-3.branch [
      | in-Some w ↦
          let from : c.in-Some-Some.first ≤ w.in-Some.before = remitted_from_first s _ _ _ _ c.self.inside.remitted c.in-Some-Some.first w.in-Some.before c.self.invariant first w.in-Some.is in
          omega arith
      | in-None w ↦ omega arith
    ] in
    kept_remit s _ _ _ _ c.self.inside.remitted c.in-Some-Some.first c.in-Some-Some.last c.args.month c.self.invariant first closed low high
