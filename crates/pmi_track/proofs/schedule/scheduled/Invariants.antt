use Rattle.std.proofs.Common.{◌≡◌}
use Rattle.pmi_track.specs.Schedule.{scheduled}
use Rattle.pmi_track.proofs.schedule.scheduled.Given as goal

abbrev pub invariant-loop-paid : goal.invariant-loop-paid
invariant-loop-paid l = record { balance : l.balance ≡ scheduled l.terms l.paid }
