use Rattle.std.proofs.Common.{◌≡◌}
use Rattle.svc_core.specs.Posted.{history_of}
use Rattle.servicing_transfer.specs.Sets.{set_of}
use Rattle.servicing_transfer.proofs.PassLemmas.{part_to}
use Rattle.servicing_transfer.proofs.splitting.part.Given as goal

abbrev pub invariant-loop-done : goal.invariant-loop-done
invariant-loop-done g l = record {
  part : history_of l.part.items ≡ part_to (set_of l.scope.loans) l.core.history l.done;
}
