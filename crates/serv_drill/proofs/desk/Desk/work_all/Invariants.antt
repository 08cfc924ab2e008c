use Rattle.std.proofs.Common.{◌≡◌, ◌+◌, ◌≤◌}
use Rattle.serv_drill.specs.Draws.{state_after}
use Rattle.serv_drill.specs.Asked.{asked}
use Rattle.serv_drill.specs.Works.{each, asked_at}
use Rattle.serv_drill.specs.Machine.{after_works, cost_of_works}
use Rattle.serv_drill.specs.Tallies.{tally}
use Rattle.serv_drill.proofs.desk.Desk.work_all.Given as goal

abbrev pub invariant-loop-i : goal.invariant-loop-i
invariant-loop-i g l = record {
  after : tally l.self ≡ after_works (tally l.initial.self) (each (asked_at (asked l.when) l.month l.initial.draws.state) l.i);
  draws : l.draws.state ≡ state_after l.initial.draws.state l.i;
  made : l.self.made ≤ l.initial.self.made + l.i;
  cost : l.steps ≤ l.initial.steps + cost_of_works (tally l.initial.self) (each (asked_at (asked l.when) l.month l.initial.draws.state) l.i);
}
