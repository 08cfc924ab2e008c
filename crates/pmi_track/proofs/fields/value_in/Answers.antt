use Rattle.std.proofs.Common.{rules, ◌≢◌, ℤ, FitsSigned, w64, arith}
use Rattle.std.specs.Prelude.{pos, ◌<ℤ◌, ◌≤ℤ◌}
use Rattle.std.proofs.lemmas.Int.{ints, to_z-of_z}
use Rattle.svc_base.specs.Text.{text_of_amount, IsReadAmount}
use Rattle.pmi_track.proofs.RowLemmas.{value_read, value_zero, value_missing}
use Rattle.pmi_track.proofs.fields.value_in.Goals as goal

pub returns-in-Some : goal.returns-in-Some
returns-in-Some c =
    let z = c.in-Some.value in
    let range = c.in-Some.ensures.range in
    let low = range.low in
    let high = range.high in
    let fits : FitsSigned w64 z = omega (arith, ints, low, high) in
    let some : pos 0 <ℤ z = omega (arith, ints, c.if-value-gt0.true) in
    simp to_z-of_z (value_read z c.args.text.now c.in-Some.ensures.read range some)

pub returns-in_default : goal.returns-in_default
returns-in_default c =
    let z = c.in-Some.value in
    let range = c.in-Some.ensures.range in
    let low = range.low in
    let high = range.high in
    let fits : FitsSigned w64 z = omega (arith, ints, low, high) in
    let small : z ≤ℤ pos 0 = omega (arith, ints, c.if-value-gt0.false) in
    value_zero z c.args.text.now c.in-Some.ensures.read range small

pub returns-in_default-2 : goal.returns-in_default-2
returns-in_default-2 c =
    let none : (z : ℤ) → IsReadAmount z → c.args.text.now ≢ text_of_amount z = search rules in
    value_missing c.args.text.now none
