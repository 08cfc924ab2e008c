use Rattle.std.proofs.Common.{◌≡◌, ◌≤◌, take}
use Rattle.std.specs.Prelude.{map}
use Rattle.svc_world.specs.World.{world}
use Rattle.servicing_transfer.specs.StatementTexts.{line_for}
use Rattle.servicing_transfer.proofs.stating.lines_of.Given as goal

abbrev pub invariant-loop-loan : goal.invariant-loop-loan
invariant-loop-loan g l = record {
  lines : l.lines.items ≡ map (line_for (world l.core.history)) (take l.loan-index (world l.core.history).loans);
  steps : l.steps ≤ l.fn.steps;
}
