use Rattle.std.proofs.Common.{ℕ, List, ◌≤◌, ◌^◌, length}
use Rattle.serv_disk.specs.Disks.{Each, LeavesOnly}
use Rattle.serv_journal.specs.Bytes.{Starts}
use Rattle.serv_journal.specs.Outcomes.{Reaches}
use Rattle.serv_journal.proofs.writes.lay_zeros.Given as goal

-- what was tried left all that is of account
abbrev pub invariant-loop-count : goal.invariant-loop-count
invariant-loop-count g l = record {
  most : l.count ≤ 2 ^ 16;
  reach : Reaches (g.D.Disk.view l.disk).seen l.at;
  crash : (front : List ℕ) → length front ≤ l.at → Each (g.D.Disk.view l.fn.disk).images (Starts front) → Each (g.D.Disk.view l.disk).images (Starts front);
  moments : (front : List ℕ) → length front ≤ l.at → Each (g.D.Disk.view l.fn.disk).images (Starts front) → LeavesOnly g.D.Disk.view l.fn.disk l.disk (Starts front);
  faults : g.D.Disk.faults l.fn.disk ≤ g.D.Disk.faults l.disk;
}

abbrev pub decreases-loop-count : goal.decreases-loop-count
decreases-loop-count g l = l.count
