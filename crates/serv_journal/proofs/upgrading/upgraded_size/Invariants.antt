use Rattle.std.proofs.Common.{◌≡◌, ◌+◌, ◌≤◌, length, take}
use Rattle.serv_journal.specs.declared.format.Version.TheVariants.{Two}
use Rattle.serv_journal.specs.Format.{records}
use Rattle.serv_journal.specs.Reading.{lines_in}
use Rattle.serv_journal.proofs.upgrading.upgraded_size.Given as goal

abbrev pub invariant-loop-i : goal.invariant-loop-i
invariant-loop-i l = record {
  total : l.total ≡ l.size + 9 + length (records Two 1 (take l.i (lines_in l.frames)));
  within : l.total ≤ l.limit;
}
