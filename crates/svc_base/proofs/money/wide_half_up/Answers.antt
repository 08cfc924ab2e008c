use Rattle.std.proofs.Common.{arith, ◌<◌, ◌+◌, ◌*◌, ◌/◌, ◌^◌}
use Rattle.std.proofs.lemmas.Int.{ints}
use Rattle.std.proofs.Math.Nat.{div-lt_iff_lt-mul}
use Rattle.svc_base.proofs.money.wide_half_up.Goals as goal

pub returns : goal.returns
returns c =
    let wide : 0 < 2 * c.args.whole = omega arith in
    let low : 2 * c.args.part + c.args.whole < 2 ^ 63 * (2 * c.args.whole) = omega arith in
    let fits : (2 * c.args.part + c.args.whole) / (2 * c.args.whole) < 2 ^ 63 = (div-lt_iff_lt-mul wide).1 low in
    omega (arith, ints)
