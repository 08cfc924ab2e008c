use Rattle.std.proofs.Common.{◌≡◌, ◌≤◌}
use Rattle.servicing_transfer.specs.Parts.{place_in}
use Rattle.servicing_transfer.specs.Passes.{places_to}
use Rattle.servicing_transfer.specs.Sets.{set_of}
use Rattle.servicing_transfer.proofs.places.places.Given as goal

abbrev pub invariant-loop-done : goal.invariant-loop-done
invariant-loop-done g l = record {
  places : l.places.items ≡ places_to (set_of l.scope.loans) l.core.history l.done;
  place : l.place ≡ place_in (set_of l.scope.loans) l.core.history l.done;
  few : l.place ≤ l.done;
}
