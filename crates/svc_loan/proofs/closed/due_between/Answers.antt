use Rattle.std.proofs.Common.{refl, arith}
use Rattle.std.proofs.lemmas.Int.{ints}
use Rattle.remit_types.proofs.DueFields.{due_fields}
use Rattle.svc_loan.proofs.closed.due_between.Goals as goal

pub returns : goal.returns
returns c = due_fields _ _ _ _ _ _ _ _ refl (omega (arith, ints)) (omega (arith, ints)) (omega (arith, ints))
