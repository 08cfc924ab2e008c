use Rattle.std.proofs.Common.{[], refl, arith, inl}
use Rattle.std.proofs.KnownBytes.{Appends-nil}
use Rattle.serv_machine.proofs.OnDiskLemmas.{disk_none}
use Rattle.serv_top.proofs.ImportLemmas.{batch_rows, file_says}
use Rattle.serv_top.specs.Imported.{rows, headless}
use Rattle.serv_machine.proofs.UpheldLemmas.{upheld_none}
use Rattle.serv_top.proofs.AnsweredLemmas.{file_written}
use Rattle.serv_top.proofs.importing.answer_file.Goals as goal

pub answer_rows-requires-clause-rows : goal.answer_rows-requires-clause-rows
answer_rows-requires-clause-rows g c = rw c.deref.ensures.value (batch_rows _ _ c.in-Ok.ensures.read)

pub returns-in-Ok-clause-ends : goal.returns-in-Ok-clause-ends
returns-in-Ok-clause-ends g c =
    file_says g.D.Disk.view _ _ _ _ _ _ _ _ _ (rows _ c.in-Ok.ensures.read) (rw c.deref.ensures.value at c.answer_rows.ensures.ends)

pub returns-in-Err-Header-clause-ends : goal.returns-in-Err-Header-clause-ends
returns-in-Err-Header-clause-ends g c =
    file_says g.D.Disk.view _ _ _ _ _ _ _ _ _ (headless ((rw c.in-Err-Header.field-0-is at c.in-Err-Header.ensures.header) refl)) c.answer_rows-in-Err-Header.ensures.ends

pub returns-in-Err-OutOfMemory-clause-ends : goal.returns-in-Err-OutOfMemory-clause-ends
returns-in-Err-OutOfMemory-clause-ends g c = record {
  pending = [];
  written = [];
  wrote = Appends-nil _;
  says_so = inl (refl, refl, refl, ((g.met.M.Machine.settled c.args.machine.now c.args.disk.now c.requires.ready).1, omega arith));
  disk = disk_none g.D.Disk.view c.args.disk.now _ _ (g.met.M.Machine.settled c.args.machine.now c.args.disk.now c.requires.ready).1
      (g.met.M.Machine.keeps c.args.machine.now c.args.disk.now c.requires.ready) (g.met.D.Disk.only_now c.args.disk.now);
}

pub returns-in-Ok-clause-upheld : goal.returns-in-Ok-clause-upheld
returns-in-Ok-clause-upheld g c = file_written _ _ _ _ _ _ _ _ (rows _ c.in-Ok.ensures.read) (rw c.deref.ensures.value at c.answer_rows.ensures.upheld)

pub returns-in-Err-Header-clause-upheld : goal.returns-in-Err-Header-clause-upheld
returns-in-Err-Header-clause-upheld g c =
    file_written _ _ _ _ _ _ _ _ (headless ((rw c.in-Err-Header.field-0-is at c.in-Err-Header.ensures.header) refl)) c.answer_rows-in-Err-Header.ensures.upheld

pub returns-in-Err-OutOfMemory-clause-upheld : goal.returns-in-Err-OutOfMemory-clause-upheld
returns-in-Err-OutOfMemory-clause-upheld g c = upheld_none _ _ _ _ _
