use Rattle.std.proofs.Common.{sym, subst}
use Rattle.serv_journal.specs.Disks.{IsDurableFor}
use Rattle.serv_journal.specs.Reading.{lines_in}
use Rattle.serv_engine.proofs.FaultLemmas.{replay_taking, upgrade_taking}
use Rattle.serv_engine.proofs.ReplayLemmas.{all_within}
use Rattle.serv_engine.proofs.UpgradedLemmas.{whole_now}
use Rattle.serv_engine.proofs.opening.take_over.Goals as goal

pub returns-in-Ok-upgrade_old-clause-durable : goal.returns-in-Ok-upgrade_old-clause-durable
returns-in-Ok-upgrade_old-clause-durable g c =
    subst (λ l. IsDurableFor (g.D.Disk.view c.upgrade_old.new.disk).images c.upgrade_old.new.journal l) (sym c.in-Ok.ensures.lines) c.in-Ok-upgrade_old.ensures.durable

pub returns-in-Err-upgrade_old-clause-fault : goal.returns-in-Err-upgrade_old-clause-fault
returns-in-Err-upgrade_old-clause-fault g c =
    upgrade_taking c.args.journal.now c.args.frames.now (g.D.Disk.faults c.args.disk.now) (g.D.Disk.faults c.upgrade_old.new.disk) c.in-Err-upgrade_old.fault c.in-Ok.core.history
    c.in-Ok.ensures.lines c.in-Ok.ensures.history c.in-Err-upgrade_old.ensures.fault

pub returns-in-Err-clause-moments : goal.returns-in-Err-clause-moments
returns-in-Err-clause-moments g c =
    whole_now g.D.Disk.view c.args.disk.now c.args.journal.now (lines_in c.args.frames.now) (g.met.D.Disk.only_now c.args.disk.now) c.requires.durable

pub returns-in-Err-clause-fault : goal.returns-in-Err-clause-fault
returns-in-Err-clause-fault g c =
    replay_taking c.args.journal.now c.args.frames.now (g.D.Disk.faults c.args.disk.now) (g.D.Disk.faults c.args.disk.now) c.in-Err.fault c.in-Err.ensures.fault

pub returns-in-Err-upgrade_old-clause-bound_err : goal.returns-in-Err-upgrade_old-clause-bound_err
returns-in-Err-upgrade_old-clause-bound_err g c = λ is free.
    all_within (lines_in c.args.frames.now) c.in-Ok.core.history c.args.steps.now c.replay.new.steps c.in-Ok.ensures.lines (c.in-Ok.ensures.bound is free)

pub returns-in-Err-clause-bound_err : goal.returns-in-Err-clause-bound_err
returns-in-Err-clause-bound_err g c = λ is free. c.in-Err.ensures.bound_err is free
