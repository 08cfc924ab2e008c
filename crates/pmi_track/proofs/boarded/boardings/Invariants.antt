use Rattle.std.proofs.Common.{◌≡◌, ℕ, nat_eq, take}
use Rattle.std.specs.HashMap.{get}
use Rattle.pmi_track.specs.Boardings.{boarded_terms}
use Rattle.pmi_track.proofs.boarded.boardings.Given as goal

abbrev pub invariant-loop-done : goal.invariant-loop-done
invariant-loop-done g l = record { table : (id : ℕ) → get nat_eq l.table id ≡ boarded_terms id (take l.done l.core.history) }
