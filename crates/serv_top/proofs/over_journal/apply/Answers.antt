use Rattle.std.proofs.Common.{refl, inl, inr}
use Rattle.serv_journal.proofs.ReadingLemmas.{risen_from}
use Rattle.serv_top.proofs.Applied.{applied}
use Rattle.serv_top.proofs.over_journal.apply.Goals as goal

pub returns-in-Ok-clause-applied : goal.returns-in-Ok-clause-applied
returns-in-Ok-clause-applied g c =
    inr (applied g.D.Disk.view c.args.disk.now c.open_journal.new.disk c.serve-status.new.disk c.serve-status.result c.in-Ok.engine _
    c.args.steps.now c.open_journal.new.steps c.serve-status.new.steps _ _ _ _ _ _ c.in-Ok.ensures.opened c.in-Ok.ensures.limit c.serve-status.ensures.ends c.serve-status.ensures.acknowledged)

pub returns-in-Ok-clause-file : goal.returns-in-Ok-clause-file
returns-in-Ok-clause-file g c = c.in-Ok.ensures.faultless c.serve-status.result

pub returns-in-Ok-clause-disk : goal.returns-in-Ok-clause-disk
returns-in-Ok-clause-disk g c = λ is.
    risen_from (g.D.Disk.faults c.args.disk.now) (g.D.Disk.faults c.open_journal.new.disk) (g.D.Disk.faults c.serve-status.new.disk) c.open_journal.ensures.disk_later c.serve-status.ensures.disk_later (c.serve-status.ensures.disk is)

pub returns-in-Err-clause-applied : goal.returns-in-Err-clause-applied
returns-in-Err-clause-applied g c = inl (c.in-Err.ensures.unopened, refl, refl)
