use Rattle.std.proofs.Common.{◌-◌, ◌^◌, ◌<◌, ◌≤◌}
use Rattle.serv_machine.specs.OnDisk.{Upholds}
use Rattle.serv_machine.specs.History.{stand}
use Rattle.serv_machine.specs.Answering.{Writes}
use Rattle.serv_links.proofs.GoingLemmas.{Going}
use Rattle.serv_links.proofs.serving.serve_link.Given as goal

-- the requests of the bytes taken are answered
abbrev pub invariant-pieces : goal.invariant-pieces
invariant-pieces g l = record {
  run : Writes g.D.Disk.view l.fn.disk l.disk
      (Going (λ covers. Upholds covers (g.D.Disk.view l.disk) (g.M.Machine.kept l.machine) (g.C.Sink.held l.fn.link) (g.C.Sink.log l.fn.link) (g.C.Sink.log l.link))
      (g.C.Source.left l.fn.link) (g.C.Source.left l.link) l.conn l.answered l.taken (stand (g.M.Machine.kept l.fn.machine) l.fn.steps) (stand (g.M.Machine.kept l.machine) l.steps))
      (g.M.Machine.kept l.fn.machine) (g.M.Machine.kept l.machine) (g.C.Sink.held l.fn.link) (g.C.Sink.held l.link);
  below : l.taken < 2 ^ 24;
  few : l.answered ≤ l.taken;
  ready : g.M.Machine.ready l.machine l.disk;
  faults : g.D.Disk.faults l.fn.disk ≤ g.D.Disk.faults l.disk;
  read_later : g.C.Source.faults l.fn.link ≤ g.C.Source.faults l.link;
  write_later : g.C.Sink.faults l.fn.link ≤ g.C.Sink.faults l.link;
}

abbrev pub decreases-pieces : goal.decreases-pieces
decreases-pieces g l = 2 ^ 24 - l.taken
