use Rattle.std.proofs.Common.{◌≡◌, ◌+◌, ◌+ℤ◌, to_z, of_z, refl, arith}
use Rattle.std.specs.Int.{w128}
use Rattle.std.proofs.lemmas.Int.{ints}
use Rattle.serv_drill.specs.Summary.{late_of, late_owed}
use Rattle.serv_drill.proofs.SummaryLemmas.{late_more}
use Rattle.serv_drill.proofs.summary.late_owed.Goals as goal

pub loop-i-init : goal.loop-i-init
unfolding late_owed
loop-i-init g c = record { value = refl; high = omega (arith, ints); low = omega (arith, ints); steps = omega arith }

pub loop-i-preserved : goal.loop-i-preserved
loop-i-preserved g c =
    let h = c.args.core.now.history in
    let i = c.loop-i.i in
    let owed : c.in_ok-owed.owed ≡ late_of h (i + 1) = c.in_ok-owed.ensures.late in
    let more : late_owed h (i + 1) ≡ late_owed h i +ℤ late_of h (i + 1) = late_more h i in
    let same : c.from-late.result ≡ c.in_ok-owed.owed = omega (arith, ints) in
    let fits : to_z w128 (of_z w128 (to_z w128 c.loop-i.late-bits +ℤ to_z w128 (of_z w128 c.from-late.result))) ≡ to_z w128 c.loop-i.late-bits +ℤ c.from-late.result = omega (arith, ints) in
    record { value = omega (arith, ints); high = omega (arith, ints); low = omega (arith, ints); steps = omega (arith, c.late_of.ensures.steps, c.loop-i.invariant.steps) }
