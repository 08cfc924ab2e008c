use Rattle.std.proofs.Common.{take}
use Rattle.serv_http.specs.Counts.{IsCounted}
use Rattle.serv_http.proofs.window.count_on.Given as goal

abbrev pub invariant-loop-at : goal.invariant-loop-at
invariant-loop-at l = record { counted : IsCounted (take l.at l.buf) l.lines }
