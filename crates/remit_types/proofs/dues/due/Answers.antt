use Rattle.std.proofs.Common.{refl, arith}
use Rattle.std.proofs.lemmas.Int.{ints}
use Rattle.remit_types.proofs.DueFields.{due_fields}
use Rattle.remit_types.proofs.dues.due.Goals as goal

pub returns-clause-due : goal.returns-clause-due
returns-clause-due c = due_fields _ _ _ _ _ _ _ _ refl (omega (arith, ints)) (omega (arith, ints)) (omega (arith, ints))
