use Rattle.std.proofs.Common.{◌≡◌, ◌≤◌, [], take}
use Rattle.serv_machine.specs.Answering.{AreReplies}
use Rattle.serv_machine.specs.History.{running, stand}
use Rattle.serv_machine.specs.OnDisk.{OnDisk, Upholds}
use Rattle.serv_machine.specs.Sayings.{SaidFirst}
use Rattle.serv_links.specs.Meanings.{Says}
use Rattle.serv_links.specs.Outcomes.{AreGathered}
use Rattle.serv_links.proofs.answering.answer_in_turn.Given as goal

-- the requests so far are acted on, and their responses are written, but for one that may wait
abbrev pub invariant-loop-ask : goal.invariant-loop-ask
invariant-loop-ask g l = record {
  gathered : AreGathered l.responses.answered (take l.ask-index l.asks) (stand (g.M.Machine.kept l.fn.machine) l.fn.steps)
      (running (g.M.Machine.history l.machine) (g.M.Machine.kept l.machine) l.steps) (g.K.Sink.held l.fn.link) (g.K.Sink.held l.link) l.responses.replies.text.items;
  waiting : l.responses.replies.waiting ≡ 0;
  upheld : Upholds (AreReplies (SaidFirst Says l.asks) (g.M.Machine.kept l.fn.machine)) (g.D.Disk.view l.disk) (g.M.Machine.kept l.machine)
      (g.K.Sink.held l.fn.link) (g.K.Sink.log l.fn.link) (g.K.Sink.log l.link);
  disk : OnDisk g.D.Disk.view l.fn.disk l.disk (g.M.Machine.kept l.fn.machine) (g.M.Machine.kept l.machine) [];
  count : l.responses.answered ≡ l.ask-index;
  running : g.M.Machine.running l.machine l.disk;
  later : g.K.Sink.faults l.fn.link ≤ g.K.Sink.faults l.link;
  faults : g.D.Disk.faults l.fn.disk ≤ g.D.Disk.faults l.disk;
  beside : g.K.Sink.beside l.link ≡ g.K.Sink.beside l.fn.link;
}
