use Rattle.std.proofs.Common.{◌≡◌, ◌-◌, ◌^◌, ◌≤◌, []}
use Rattle.serv_machine.specs.OnDisk.{OnDisk}
use Rattle.serv_machine.specs.History.{stand, running}
use Rattle.serv_top.proofs.GoingLemmas.{Going}
use Rattle.serv_top.proofs.stream.serve.Given as goal

abbrev pub invariant-loop-taken : goal.invariant-loop-taken
invariant-loop-taken g l = record {
  going : Going (g.D.Disk.view l.disk) l.waiting (stand (g.M.Machine.history l.fn.machine) l.fn.steps) (running (g.M.Machine.history l.machine) (g.M.Machine.kept l.machine) l.steps) (g.S.Source.left l.fn.src) (g.S.Source.left l.src) (g.K.Sink.held l.fn.snk) (g.K.Sink.held l.snk) l.serving.line.items l.serving.replies.text.items l.taken (g.K.Sink.log l.fn.snk) (g.K.Sink.log l.snk);
  disk : OnDisk g.D.Disk.view l.fn.disk l.disk (g.M.Machine.history l.fn.machine) (g.M.Machine.kept l.machine) [];
  ready : g.M.Machine.ready l.machine l.disk;
  waiting : l.serving.replies.waiting ≡ l.waiting;
  empty : l.serving.replies.text.items ≡ [];
  within : l.taken ≤ 2 ^ 26;
  read_later : g.S.Source.faults l.fn.src ≤ g.S.Source.faults l.src;
  write_later : g.K.Sink.faults l.fn.snk ≤ g.K.Sink.faults l.snk;
  disk_later : g.D.Disk.faults l.fn.disk ≤ g.D.Disk.faults l.disk;
}

abbrev pub decreases-loop-taken : goal.decreases-loop-taken
decreases-loop-taken g l = 2 ^ 26 - l.taken
