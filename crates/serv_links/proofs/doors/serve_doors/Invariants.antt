use Rattle.std.proofs.Common.{◌≡◌, ◌*◌, ◌^◌, ◌≤◌, false}
use Rattle.serv_engine.specs.Engines.{IsDurable}
use Rattle.serv_machine.specs.History.{history_of, kept_history, stand}
use Rattle.serv_links.proofs.DoorsLemmas.{Along}
use Rattle.serv_links.proofs.doors.serve_doors.Given as goal

-- so many links are served
abbrev pub invariant-loop : goal.invariant-loop
invariant-loop g l = record {
  along : Along g.D.Disk.view g.G.Conn.Source.left g.G.Conn.Sink.held g.G.Conn.Sink.log g.G.Conn.Source.faults g.G.Conn.Sink.faults l.fn.disk l.disk l.summary l.counter
      (g.G.Doors.coming l.fn.doors) (g.G.Doors.coming l.doors) (g.G.Doors.backed l.fn.doors) (g.G.Doors.backed l.doors)
      (stand (history_of l.fn.engine) l.fn.steps) (stand (kept_history l.engine) l.steps);
  out : g.G.Doors.out l.doors ≡ 0;
  unspent : l.engine.journal.spent ≡ false;
  durable : IsDurable (g.D.Disk.view l.disk).images l.engine;
  served : l.summary.served ≡ l.counter;
  requests : l.summary.requests ≤ l.summary.served * 2 ^ 24;
  broken : l.summary.broken ≤ l.summary.served;
  cut : l.summary.cut ≤ l.summary.served;
  memory : l.summary.memory ≤ l.summary.served;
  faults : g.D.Disk.faults l.fn.disk ≤ g.D.Disk.faults l.disk;
  net_later : g.G.Doors.faults l.fn.doors ≤ g.G.Doors.faults l.doors;
}
