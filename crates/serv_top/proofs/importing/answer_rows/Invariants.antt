use Rattle.std.proofs.Common.{◌≡◌, ◌≤◌, [], take, map}
use Rattle.serv_machine.specs.OnDisk.{OnDisk, Upholds}
use Rattle.serv_machine.specs.History.{stand, running}
use Rattle.serv_top.specs.Imported.{said_of}
use Rattle.serv_machine.specs.Answering.{AreReplies, Gathered}
use Rattle.serv_top.proofs.importing.answer_rows.Given as goal

-- the rows so far are answered
abbrev pub invariant-loop-row : goal.invariant-loop-row
invariant-loop-row g l = record {
  gathers : Gathered 0 (map said_of (take l.row-index l.rows)) (stand (g.M.Machine.history l.fn.machine) l.fn.steps) (running (g.M.Machine.history l.machine) (g.M.Machine.kept l.machine) l.steps) (g.K.Sink.held l.fn.snk) (g.K.Sink.held l.snk) l.replies.text.items;
  upheld : Upholds (AreReplies (λ saids. saids ≡ map said_of l.rows) (g.M.Machine.history l.fn.machine)) (g.D.Disk.view l.disk) (g.M.Machine.kept l.machine) (g.K.Sink.held l.fn.snk) (g.K.Sink.log l.fn.snk) (g.K.Sink.log l.snk);
  disk : OnDisk g.D.Disk.view l.fn.disk l.disk (g.M.Machine.history l.fn.machine) (g.M.Machine.kept l.machine) [];
  running : g.M.Machine.running l.machine l.disk;
  waiting : l.replies.waiting ≡ 0;
  write_later : g.K.Sink.faults l.fn.snk ≤ g.K.Sink.faults l.snk;
  disk_later : g.D.Disk.faults l.fn.disk ≤ g.D.Disk.faults l.disk;
}
