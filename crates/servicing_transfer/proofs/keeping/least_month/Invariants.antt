use Rattle.std.proofs.Common.{◌≡◌, take}
use Rattle.servicing_transfer.specs.Parts as parts
use Rattle.servicing_transfer.specs.Sets.{set_of}
use Rattle.servicing_transfer.proofs.keeping.least_month.Given as goal

abbrev pub invariant-loop-done : goal.invariant-loop-done
invariant-loop-done g l = record {
  least : l.least ≡ parts.least_month (set_of l.set) (take l.done l.core.history);
}
