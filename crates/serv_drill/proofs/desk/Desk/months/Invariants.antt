use Rattle.std.proofs.Common.{◌≡◌, ◌+◌, ◌-◌, ◌*◌, ◌≤◌}
use Rattle.serv_drill.specs.Works.{each, month_works, state_at}
use Rattle.serv_drill.specs.Machine.{after_works, cost_of_works}
use Rattle.serv_drill.specs.Tallies.{tally}
use Rattle.serv_drill.proofs.desk.Desk.months.Given as goal

abbrev pub invariant-loop-j : goal.invariant-loop-j
invariant-loop-j g l = record {
  after : tally l.self ≡ after_works (tally l.initial.self) (each (month_works l.loans l.number) l.j);
  draws : l.draws.state ≡ state_at l.loans l.number l.j;
  earlier : l.earlier.state ≡ state_at l.loans l.number (l.j - 1);
  made : l.self.made ≤ l.initial.self.made + l.j * (2 * l.loans + 3);
  cost : l.steps ≤ l.initial.steps + cost_of_works (tally l.initial.self) (each (month_works l.loans l.number) l.j);
}
