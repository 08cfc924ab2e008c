use Rattle.std.proofs.Common.{to_z, of_z, arith}
use Rattle.std.specs.Prelude.{pos, ◌-ℤ◌}
use Rattle.std.specs.Int.{w64}
use Rattle.std.proofs.lemmas.Int.{ints}
use Rattle.bank_recon.proofs.RowLemmas.{row_pushed}
use Rattle.bank_recon.proofs.moves.push_row.Goals as goal

pub returns : goal.returns
returns c =
    let z = c.args.row.now.cents in
    let low = c.requires.0 in
    let high = c.requires.1 in
    row_pushed c.push_at-2.result c.args.row.now _ _ _ c.paid_from.result c.paid_to.result (to_z w64 (of_z w64 (pos 0 -ℤ to_z w64 (of_z w64 z)))) (to_z w64 (of_z w64 z))
    c.paid_from.ensures c.paid_to.ensures (omega (arith, ints)) (omega (arith, ints)) c.in_ok-push_at.ensures c.push_at-2.ensures
