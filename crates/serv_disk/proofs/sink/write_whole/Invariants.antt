use Rattle.std.proofs.Common.{ℕ, List, Some, length, ◌+◌, ◌-◌, ◌≡◌, ◌≤◌, take}
use Rattle.std.specs.Io.KnownBytes.{Appends}
use Rattle.serv_disk.specs.Stamps.{Notes}
use Rattle.serv_disk.proofs.sink.write_whole.Given as goal

-- the front of the text is written
abbrev pub invariant-loop-at : goal.invariant-loop-at
invariant-loop-at g l = record {
  within : l.at ≤ length l.text;
  wrote : Appends (g.K.Sink.held l.fn.snk) (g.K.Sink.held l.snk) (take l.at l.text);
  later : g.K.Sink.faults l.fn.snk ≤ g.K.Sink.faults l.snk;
  beside : g.K.Sink.beside l.snk ≡ g.K.Sink.beside l.fn.snk;
  marked : g.K.Sink.mark l.snk ≡ g.K.Sink.mark l.fn.snk;
  noted : (s : List ℕ) → g.K.Sink.held l.fn.snk ≡ Some s → Notes (g.K.Sink.mark l.fn.snk) (length s + l.at) (g.K.Sink.log l.fn.snk) (g.K.Sink.log l.snk);
}

abbrev pub decreases-loop-at : goal.decreases-loop-at
decreases-loop-at g l = length l.text - l.at
