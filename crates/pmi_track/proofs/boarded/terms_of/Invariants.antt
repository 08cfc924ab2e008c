use Rattle.std.proofs.Common.{◌≡◌, take}
use Rattle.pmi_track.specs.Boardings.{boarded_terms}
use Rattle.pmi_track.proofs.boarded.terms_of.Given as goal

abbrev pub invariant-loop-done : goal.invariant-loop-done
invariant-loop-done g l = record { terms : l.terms ≡ boarded_terms l.loan (take l.done l.core.history) }
