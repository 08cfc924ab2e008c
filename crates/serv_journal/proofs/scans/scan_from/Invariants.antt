use Rattle.std.proofs.Common.{◌≡◌, ℕ, ◌*◌, ◌-◌, ◌≤◌, List, length, Some}
use Rattle.serv_journal.specs.Windows.{IsReading}
use Rattle.serv_journal.specs.Scans.{IsPlaced, IsScanned}
use Rattle.serv_journal.proofs.scans.scan_from.Given as goal

abbrev pub invariant-loop-frames : goal.invariant-loop-frames
invariant-loop-frames g l = record {
  reading : IsReading g.D.Disk.view g.D.Disk.faults l.fn.disk l.disk l.fn.window l.window;
  placed : IsPlaced l.version l.from l.frames l.place;
  within : l.place ≤ l.fn.window.size;
  few : 4 * length l.frames ≤ l.place;
  scanned : (s : List ℕ) → (g.D.Disk.view l.fn.disk).seen ≡ Some s → IsScanned l.version l.from l.frames l.place s;
}

abbrev pub decreases-loop-frames : goal.decreases-loop-frames
decreases-loop-frames g l = l.fn.window.size - l.place
