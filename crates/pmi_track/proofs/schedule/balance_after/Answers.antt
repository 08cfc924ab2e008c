use Rattle.std.proofs.Common.{◌≡◌, FitsSigned, w64, arith}
use Rattle.std.proofs.lemmas.Int.{ints, to_z-of_z}
use Rattle.svc_spec.specs.Installments.{principal_part}
use Rattle.svc_spec.proofs.InstallmentLemmas.{principal_part_bounds}
use Rattle.pmi_track.proofs.schedule.balance_after.Goals as goal

pub overflow_sub-result : goal.overflow_sub-result
overflow_sub-result c =
    let t = c.args.terms.now in
    let fits : FitsSigned w64 c.args.balance = c.ranges.balance in
    let part : c.principal_part.result ≡ principal_part t c.args.balance c.args.k = simp to_z-of_z at c.principal_part.ensures in
    let b = principal_part_bounds t c.args.balance c.args.k c.requires.terms (record { low = c.requires.low; high = c.requires.high }) in
    let low = b.0 in
    let high = b.1 in
    let whole = c.requires.high in
    omega (arith, ints, low, high)

pub returns : goal.returns
returns c =
    let t = c.args.terms.now in
    let fits : FitsSigned w64 c.args.balance = c.ranges.balance in
    let part : c.principal_part.result ≡ principal_part t c.args.balance c.args.k = simp to_z-of_z at c.principal_part.ensures in
    let b = principal_part_bounds t c.args.balance c.args.k c.requires.terms (record { low = c.requires.low; high = c.requires.high }) in
    let low = b.0 in
    let high = b.1 in
    omega (arith, ints, low, high)
