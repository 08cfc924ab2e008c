use Rattle.std.proofs.Common.{◌≡◌, ◌+◌, length, take}
use Rattle.serv_journal.specs.declared.format.Version.TheVariants.{Two}
use Rattle.serv_journal.specs.Format.{records, laid}
use Rattle.serv_journal.specs.Reading.{lines_in}
use Rattle.serv_journal.proofs.UpgradeLemmas.{IsLaying}
use Rattle.serv_journal.proofs.upgrading.lay_all.Given as goal

-- the records that the loop has passed are written
abbrev pub invariant-loop-i : goal.invariant-loop-i
invariant-loop-i g l = record {
  place : l.at ≡ l.size + 9 + length (records Two 1 (take l.i (lines_in l.frames)));
  laying : IsLaying g.D.Disk.view g.D.Disk.faults l.size l.fn.disk l.disk l.at (laid (lines_in l.frames) l.i);
}
