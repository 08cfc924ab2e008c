use Rattle.std.proofs.Common.{◌+◌, FitsSigned, w64, arith, sym, ap, ◌∙◌}
use Rattle.std.specs.Prelude.{◌-ℤ◌}
use Rattle.std.proofs.lemmas.Int.{ints, to_z-of_z}
use Rattle.svc_spec.specs.Installments.{principal_part}
use Rattle.pmi_track.proofs.ScheduleLemmas.{scheduled_next, scheduled_within, scheduled_start}
use Rattle.pmi_track.proofs.schedule.scheduled.Goals as goal

pub loop-paid-init : goal.loop-paid-init
loop-paid-init c =
    let t = c.args.terms.now in
    let fits : FitsSigned w64 t.principal = omega (arith, ints) in
    record { balance = simp to_z-of_z (sym (scheduled_start t)) }

pub balance_after-balance-requires-clause-low : goal.balance_after-balance-requires-clause-low
balance_after-balance-requires-clause-low c =
    let w = scheduled_within c.args.terms.now c.loop-paid.paid c.requires.terms in
    let e = c.loop-paid.invariant.balance in
    let low = w.low in
    omega (arith, ints)

pub balance_after-balance-requires-clause-high : goal.balance_after-balance-requires-clause-high
balance_after-balance-requires-clause-high c =
    let w = scheduled_within c.args.terms.now c.loop-paid.paid c.requires.terms in
    let e = c.loop-paid.invariant.balance in
    let high = w.high in
    omega (arith, ints)

pub loop-paid-preserved : goal.loop-paid-preserved
loop-paid-preserved c =
    let t = c.args.terms.now in
    let paid = c.loop-paid.paid in
    let e = c.loop-paid.invariant.balance in
    let w = scheduled_within t (paid + 1) c.requires.terms in
    let is = c.balance_after-balance.ensures ∙ ap (λ b. b -ℤ principal_part t b (paid + 1)) e ∙ sym (scheduled_next t paid) in
    let low = w.low in
    let high = w.high in
    let fits : FitsSigned w64 c.balance_after-balance.result = omega (arith, ints, is, low, high) in
    record { balance = simp to_z-of_z is }
