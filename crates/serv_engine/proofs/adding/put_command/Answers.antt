use Rattle.std.proofs.Common.{length, sym, ap, subst, ◌∙◌, arith}
use Rattle.std.specs.Prelude.{Err}
use Rattle.svc_world.specs.World.{accepted}
use Rattle.serv_engine.specs.Histories.{lines_of_history}
use Rattle.serv_engine.specs.Submitting.{IsAppendFault}
use Rattle.serv_engine.proofs.EnteringLemmas.{put_with, moments_with, idle_with}
use Rattle.serv_engine.proofs.FaultLemmas.{append_fault, disk_is, kept_full, err_same}
use Rattle.serv_engine.proofs.adding.put_command.Goals as goal

pub returns-in_err-line-clause-moments : goal.returns-in_err-line-clause-moments
returns-in_err-line-clause-moments g c = λ form h begun kept.
    idle_with g.D.Disk.view c.args.until c.args.disk.now form c.args.journal.now h begun (accepted c.args.key.now c.args.command.now) c.requires.alone
    (g.met.D.Disk.only_now c.args.disk.now) kept

pub returns-in-Ok-clause-moments : goal.returns-in-Ok-clause-moments
returns-in-Ok-clause-moments g c = λ form h begun kept.
    moments_with g.D.Disk.view c.args.until c.args.disk.now c.put_line.new.disk form h begun (accepted c.args.key.now c.args.command.now) c.deref.result.now
    (c.deref.ensures.value ∙ c.in_ok-line.ensures.text) (c.put_line.ensures.moments form (lines_of_history h) (lines_of_history begun) kept)

pub returns-in-Ok-clause-put : goal.returns-in-Ok-clause-put
returns-in-Ok-clause-put g c = λ form h begun kept.
    put_with c.args.until (g.D.Disk.view c.put_line.new.disk).images form h begun (accepted c.args.key.now c.args.command.now) c.deref.result.now c.put_line.new.journal
    (c.deref.ensures.value ∙ c.in_ok-line.ensures.text) (c.in-Ok.ensures.put form (lines_of_history h) (lines_of_history begun) kept)

pub returns-clause-moments : goal.returns-clause-moments
returns-clause-moments g c = λ form h begun kept.
    moments_with g.D.Disk.view c.args.until c.args.disk.now c.put_line.new.disk form h begun (accepted c.args.key.now c.args.command.now) c.deref.result.now
    (c.deref.ensures.value ∙ c.in_ok-line.ensures.text) (c.put_line.ensures.moments form (lines_of_history h) (lines_of_history begun) kept)

pub returns-clause-fault : goal.returns-clause-fault
returns-clause-fault g c =
    let a = accepted c.args.key.now c.args.command.now in
    let long = ap length (c.deref.ensures.value ∙ c.in_ok-line.ensures.text) in
    let old = g.D.Disk.faults c.args.disk.now in
    let new = g.D.Disk.faults c.put_line.new.disk in
    subst (IsAppendFault c.args.journal.now a old new) (sym c.of_journal.ensures)
    (append_fault c.args.journal.now a old new c.in-Err.fault c.in-Err.ensures.fault
    (λ is. let past = c.in-Err.ensures.full.0 (ap (λ x. Err x) is) in omega (arith, long, past))
    (λ past. err_same _ _ (c.in-Err.ensures.full.1 (omega (arith, long, past)))))

pub returns-clause-kept : goal.returns-clause-kept
returns-clause-kept g c =
    rw c.of_journal.ensures (kept_full c.args.journal.now.size (g.D.Disk.faults c.args.disk.now) (g.D.Disk.faults c.put_line.new.disk) c.in-Err.fault _ c.in-Err.ensures.fault
    (λ is. c.in-Err.ensures.kept (c.in-Err.ensures.full.0 (ap (λ x. Err x) is))))

pub returns-clause-spent : goal.returns-clause-spent
returns-clause-spent g c =
    let both = disk_is c.args.journal.now.size (g.D.Disk.faults c.args.disk.now) (g.D.Disk.faults c.put_line.new.disk) c.in-Err.fault c.in-Err.ensures.fault in (
      (λ is. c.in-Err.ensures.spent.0 (ap (λ x. Err x) (both.0 (sym c.of_journal.ensures ∙ err_same _ _ is)))),
      (λ is. ap (λ x. Err x) (c.of_journal.ensures ∙ both.1 (err_same _ _ (c.in-Err.ensures.spent.1 is)))),
    )
