use Rattle.std.proofs.Common.{◌≡◌, ◌≤◌, ◌^◌, FitsSigned, w64, arith}
use Rattle.std.specs.Prelude.{ℤ, pos, ◌*ℤ◌, unsigned_abs}
use Rattle.std.specs.Int.{w128}
use Rattle.std.proofs.lemmas.Int.{ints, to_z-of_z, fits_signed_mul}
use Rattle.pmi_track.proofs.ending.is_within.Goals as goal

most : (z : ℤ) → FitsSigned w64 z → unsigned_abs z ≤ 2 ^ 63
most z fits = omega (arith, ints)

pub returns : goal.returns
returns c =
    let fits : FitsSigned w64 c.args.balance = c.ranges.balance in
    let fits2 : FitsSigned w64 c.args.value = c.ranges.value in
    let one : c.from.result ≡ c.args.balance = simp to_z-of_z at c.from.ensures in
    let two : c.from-2.result ≡ pos c.args.percent = c.from-2.ensures in
    let three : c.from-3.result ≡ c.args.value = simp to_z-of_z at c.from-3.ensures in
    let percent : unsigned_abs (pos c.args.percent) ≤ 2 ^ 32 = omega (arith, c.ranges.percent) in
    let a : FitsSigned w128 c.args.balance = omega (arith, ints) in
    let b : FitsSigned w128 (pos c.args.percent) = omega (arith, ints) in
    let d : FitsSigned w128 c.args.value = omega (arith, ints) in
    let left : FitsSigned w128 (pos 100 *ℤ c.args.balance) = omega (arith, ints) in
    let right : FitsSigned w128 (pos c.args.percent *ℤ c.args.value) = fits_signed_mul w128 (pos c.args.percent) c.args.value (2 ^ 32) (2 ^ 63) percent (most c.args.value fits2) (omega arith) in
    rw (one, two, three) (simp to_z-of_z)
