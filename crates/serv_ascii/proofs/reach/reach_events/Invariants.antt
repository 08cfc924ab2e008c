use Rattle.std.proofs.Common.{take}
use Rattle.std.specs.List.{All}
use Rattle.serv_ascii.specs.Reach.{IsReachedEvent}
use Rattle.serv_ascii.proofs.reach.reach_events.Given as goal

abbrev pub invariant-loop-line : goal.invariant-loop-line
invariant-loop-line l = All IsReachedEvent (take l.line-index l.lines)
