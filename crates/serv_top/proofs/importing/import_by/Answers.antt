use Rattle.std.proofs.Common.{refl}
use Rattle.serv_machine.proofs.OnDiskLemmas.{disk_none}
use Rattle.serv_top.proofs.ImportLemmas.{import_unread}
use Rattle.serv_machine.proofs.UpheldLemmas.{upheld_none}
use Rattle.serv_top.proofs.importing.import_by.Goals as goal

pub returns-in-Err-clause-ends : goal.returns-in-Err-clause-ends
returns-in-Err-clause-ends g c =
    import_unread g.D.Disk.view _ _ _ _ _ _ _ _ c.in-Err.ensures.unread (g.met.M.Machine.settled c.args.machine.now c.args.disk.now c.requires).1 refl
    (disk_none g.D.Disk.view c.args.disk.now _ _ (g.met.M.Machine.settled c.args.machine.now c.args.disk.now c.requires).1 (g.met.M.Machine.keeps c.args.machine.now c.args.disk.now c.requires) (g.met.D.Disk.only_now c.args.disk.now))

pub returns-in-Ok-clause-acknowledged : goal.returns-in-Ok-clause-acknowledged
returns-in-Ok-clause-acknowledged g c = record {
  taken = c.in-Ok.bytes.items;
  took = c.in-Ok.ensures.whole.0;
  upheld = rw c.deref.ensures.value at c.answer_file.ensures.upheld;
}

pub returns-in-Err-clause-acknowledged : goal.returns-in-Err-clause-acknowledged
returns-in-Err-clause-acknowledged g c = record {
  taken = c.in-Err.ensures.unread.0;
  took = c.in-Err.ensures.unread.1;
  upheld = upheld_none _ _ _ _ _;
}
