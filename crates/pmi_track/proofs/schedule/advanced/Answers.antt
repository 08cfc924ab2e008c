use Rattle.std.proofs.Common.{◌≡◌, ◌≢◌, ◌+◌, ◌<◌, ◌≤◌, FitsSigned, w64, arith}
use Rattle.std.specs.Prelude.{◌-ℤ◌}
use Rattle.std.proofs.lemmas.Int.{ints, to_z-of_z}
use Rattle.svc_spec.specs.Installments.{principal_part}
use Rattle.pmi_track.proofs.ScheduleLemmas.{progress_before, progress_after, progress_next, progress_few, progress_within}
use Rattle.pmi_track.proofs.schedule.advanced.Goals as goal
use Rattle.pmi_track.proofs.schedule.advanced.Goals.{then-number-via-then-number, then-number-via-else-number+then-progress-terms}

pub returns-then-number : goal.returns-then-number
returns-then-number c = elim c.then-number.branch [
  | then-number-via-then-number w ↦
      let lt : c.args.month < c.args.terms.now.first = omega (arith, w.if-number.true) in
      progress_before c.args.terms.now c.args.month c.args.progress c.requires.since lt c.requires.before
  | then-number-via-else-number+then-progress-terms w ↦
      let all : c.args.progress.due ≡ c.args.terms.now.term = omega (arith, w.if-progress-terms.true) in
      progress_after c.args.terms.now c.args.month c.args.progress c.requires.since all c.requires.before
]

pub overflow_add-due : goal.overflow_add-due
overflow_add-due c =
    let left : c.args.progress.due ≢ c.args.terms.now.term = c.if-progress-terms.false in
    let few = progress_few c.args.terms.now _ c.args.progress c.requires.before left in
    omega (arith, few)

pub balance_after-requires-clause-low : goal.balance_after-requires-clause-low
balance_after-requires-clause-low c =
    let w = progress_within c.args.terms.now _ c.args.progress c.requires.terms c.requires.before in
    let low = w.low in
    let high = w.high in
    let fits : FitsSigned w64 c.args.progress.balance = omega (arith, ints, low, high) in
    simp to_z-of_z low

pub balance_after-requires-clause-high : goal.balance_after-requires-clause-high
balance_after-requires-clause-high c =
    let w = progress_within c.args.terms.now _ c.args.progress c.requires.terms c.requires.before in
    let low = w.low in
    let high = w.high in
    let fits : FitsSigned w64 c.args.progress.balance = omega (arith, ints, low, high) in
    simp to_z-of_z high

pub returns : goal.returns
returns c =
    let t = c.args.terms.now in
    let p = c.args.progress in
    let left : p.due ≢ t.term = c.if-progress-terms.false in
    let le : t.first ≤ c.args.month = omega (arith, c.if-number.false) in
    let w = progress_within t _ p c.requires.terms c.requires.before in
    let low = w.low in
    let high = w.high in
    let fits : FitsSigned w64 p.balance = omega (arith, ints, low, high) in
    let is : c.balance_after.result ≡ p.balance -ℤ principal_part t p.balance (p.due + 1) = simp to_z-of_z at c.balance_after.ensures in
    let next = progress_next t c.args.month p c.balance_after.result c.requires.since le left c.requires.before is in
    let v = progress_within t c.args.month _ c.requires.terms next in
    let low2 = v.low in
    let high2 = v.high in
    let fits2 : FitsSigned w64 c.balance_after.result = omega (arith, ints, low2, high2) in
    simp to_z-of_z next
