use Rattle.std.proofs.Common.{refl, subst}
use Rattle.svc_world.specs.World.{accepted}
use Rattle.serv_disk.specs.Disks.{Each, LeavesOnly}
use Rattle.serv_engine.specs.Histories.{IsGoodFor}
use Rattle.serv_engine.proofs.DurableLemmas.{durable_in}
use Rattle.serv_engine.proofs.RunningLemmas.{durable_is_running, durable_running, none_kept_of}
use Rattle.serv_engine.proofs.EnteringLemmas.{running_durable}
use Rattle.serv_engine.proofs.SubmitLemmas.{taken_unchanged, ok_not_spent, unspent_now, err_spent}
use Rattle.serv_engine.proofs.engine.Engine.submit.Goals as goal

pub enter-requires-clause-running : goal.enter-requires-clause-running
enter-requires-clause-running g c = durable_running (g.D.Disk.view c.args.disk.now).images c.args.self.now c.requires.durable

pub enter-requires-clause-alone : goal.enter-requires-clause-alone
enter-requires-clause-alone g c = λ is. c.requires.durable.kept.gate

pub returns-in-Ok-clause-repeated : goal.returns-in-Ok-clause-repeated
returns-in-Ok-clause-repeated g c = λ reply is. taken_unchanged _ c.in-Ok.taken _ _ reply c.in-Ok.ensures.taken is

pub returns-in-Ok-clause-durable : goal.returns-in-Ok-clause-durable
returns-in-Ok-clause-durable g c =
    let form = c.requires.durable.form in
    durable_in form (g.D.Disk.view c.enter.new.disk).images c.enter.new.self
    (running_durable form (g.D.Disk.view c.enter.new.disk).images c.enter.new.self (c.in-Ok.ensures.none refl)
    (c.in-Ok.ensures.running_in form (durable_is_running form (g.D.Disk.view c.args.disk.now).images c.args.self.now c.requires.durable.kept)))

pub returns-in-Ok-clause-durable_in : goal.returns-in-Ok-clause-durable_in
returns-in-Ok-clause-durable_in g c = λ form d.
    running_durable form (g.D.Disk.view c.enter.new.disk).images c.enter.new.self (c.in-Ok.ensures.none refl)
    (c.in-Ok.ensures.running_in form (durable_is_running form (g.D.Disk.view c.args.disk.now).images c.args.self.now d))

pub returns-in-Ok-clause-moments : goal.returns-in-Ok-clause-moments
returns-in-Ok-clause-moments g c = λ form d.
    subst (λ h. LeavesOnly g.D.Disk.view c.args.disk.now c.enter.new.disk (IsGoodFor form h (accepted c.args.key.now c.args.command.now)))
    (none_kept_of c.args.self.now d.gate) (c.enter.ensures.moments form (durable_is_running form (g.D.Disk.view c.args.disk.now).images c.args.self.now d))

pub returns-in-Ok-clause-good : goal.returns-in-Ok-clause-good
returns-in-Ok-clause-good g c = λ form d.
    subst (λ h. Each (g.D.Disk.view c.enter.new.disk).images (IsGoodFor form h (accepted c.args.key.now c.args.command.now)))
    (none_kept_of c.args.self.now d.gate) (c.enter.ensures.good form (durable_is_running form (g.D.Disk.view c.args.disk.now).images c.args.self.now d))

pub returns-in-Ok-clause-spent : goal.returns-in-Ok-clause-spent
returns-in-Ok-clause-spent g c = ok_not_spent _ c.enter.new.self.journal.spent (unspent_now c.in-Ok.taken c.enter.new.self.journal.spent c.in-Ok.ensures.spent.1)

pub returns-in-Err-clause-moments : goal.returns-in-Err-clause-moments
returns-in-Err-clause-moments g c = λ form d.
    subst (λ h. LeavesOnly g.D.Disk.view c.args.disk.now c.enter.new.disk (IsGoodFor form h (accepted c.args.key.now c.args.command.now)))
    (none_kept_of c.args.self.now d.gate) (c.enter.ensures.moments form (durable_is_running form (g.D.Disk.view c.args.disk.now).images c.args.self.now d))

pub returns-in-Err-clause-good : goal.returns-in-Err-clause-good
returns-in-Err-clause-good g c = λ form d.
    subst (λ h. Each (g.D.Disk.view c.enter.new.disk).images (IsGoodFor form h (accepted c.args.key.now c.args.command.now)))
    (none_kept_of c.args.self.now d.gate) (c.enter.ensures.good form (durable_is_running form (g.D.Disk.view c.args.disk.now).images c.args.self.now d))

pub returns-in-Err-clause-spent : goal.returns-in-Err-clause-spent
returns-in-Err-clause-spent g c = err_spent c.in-Err.fault c.enter.new.self.journal.spent c.in-Err.ensures.spent.0 c.in-Err.ensures.spent.1
