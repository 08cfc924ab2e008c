use Rattle.std.proofs.Common.{◌≡◌, ℕ, ◌-◌, ◌≤◌, List, [], ◌++◌, length, take, Option}
use Rattle.serv_machine.specs.OnDisk.{OnDisk, Upholds}
use Rattle.serv_machine.specs.Sayings.{SaidFirst}
use Rattle.serv_machine.specs.Answering.{AreReplies}
use Rattle.serv_top.specs.Lines.{Says, ended_lines}
use Rattle.serv_machine.specs.History.{Stand, running}
use Rattle.serv_top.specs.Outcome.{Served}
use Rattle.serv_top.proofs.serving.Serving.feed_all.Given as goal

-- the bytes so far are served
abbrev pub invariant-loop-at : goal.invariant-loop-at
invariant-loop-at g l = record {
  within : l.at ≤ length l.bytes;
  served : (before : List ℕ) (s : Stand) (held : Option (List ℕ)) → Served l.fn.self.replies.waiting before s (running (g.M.Machine.history l.fn.machine) (g.M.Machine.kept l.fn.machine) l.fn.steps) held (g.K.Sink.held l.fn.snk) l.fn.self.line.items l.fn.self.replies.text.items
      → Served l.fn.self.replies.waiting (before ++ take l.at l.bytes) s (running (g.M.Machine.history l.machine) (g.M.Machine.kept l.machine) l.steps) held (g.K.Sink.held l.snk) l.self.line.items l.self.replies.text.items;
  upheld : (before : List ℕ) (s : Stand) (held : Option (List ℕ)) → Served l.fn.self.replies.waiting before s (running (g.M.Machine.history l.fn.machine) (g.M.Machine.kept l.fn.machine) l.fn.steps) held (g.K.Sink.held l.fn.snk) l.fn.self.line.items l.fn.self.replies.text.items
      → Upholds (AreReplies (SaidFirst Says (ended_lines (before ++ l.bytes))) s.history) (g.D.Disk.view l.disk) (g.M.Machine.kept l.machine) held (g.K.Sink.log l.fn.snk) (g.K.Sink.log l.snk);
  disk : OnDisk g.D.Disk.view l.fn.disk l.disk (g.M.Machine.kept l.fn.machine) (g.M.Machine.kept l.machine) [];
  running : g.M.Machine.running l.machine l.disk;
  waiting : l.self.replies.waiting ≡ l.fn.self.replies.waiting;
  later : g.K.Sink.faults l.fn.snk ≤ g.K.Sink.faults l.snk;
  disk_later : g.D.Disk.faults l.fn.disk ≤ g.D.Disk.faults l.disk;
}

abbrev pub decreases-loop-at : goal.decreases-loop-at
decreases-loop-at g l = length l.bytes - l.at
