use Rattle.std.proofs.Common.{arith}
use Rattle.std.proofs.lemmas.Int.{ints}
use Rattle.period_adjust.proofs.ChangesLemmas.{adjustment_fields}
use Rattle.period_adjust.proofs.changes.adjustment.Goals as goal

pub returns : goal.returns
returns c = adjustment_fields _ _ _ _ _ _ _ (omega (arith, ints)) (omega (arith, ints))
