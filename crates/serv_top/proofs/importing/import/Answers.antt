use Rattle.std.proofs.Common.{refl, inl, inr}
use Rattle.serv_journal.proofs.ReadingLemmas.{risen_from}
use Rattle.serv_top.proofs.ImportLemmas.{imported}
use Rattle.serv_top.proofs.importing.import.Goals as goal

pub returns-in-Ok-clause-imported : goal.returns-in-Ok-clause-imported
returns-in-Ok-clause-imported g c =
    inr (imported g.D.Disk.view c.args.disk.now c.open_journal.new.disk c.import_by.new.disk c.import_by.result c.in-Ok.engine _
    c.args.steps.now c.open_journal.new.steps c.import_by.new.steps _ _ _ _ _ _ c.in-Ok.ensures.opened c.in-Ok.ensures.limit c.import_by.ensures.ends c.import_by.ensures.acknowledged)

pub returns-in-Ok-clause-file : goal.returns-in-Ok-clause-file
returns-in-Ok-clause-file g c = c.in-Ok.ensures.faultless c.import_by.result

pub returns-in-Ok-clause-disk : goal.returns-in-Ok-clause-disk
returns-in-Ok-clause-disk g c = λ is.
    risen_from (g.D.Disk.faults c.args.disk.now) (g.D.Disk.faults c.open_journal.new.disk) (g.D.Disk.faults c.import_by.new.disk) c.open_journal.ensures.disk_later c.import_by.ensures.disk_later (c.import_by.ensures.disk is)

pub returns-in-Err-clause-imported : goal.returns-in-Err-clause-imported
returns-in-Err-clause-imported g c = inl (c.in-Err.ensures.unopened, refl, refl)
