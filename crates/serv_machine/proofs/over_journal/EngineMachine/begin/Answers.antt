use Rattle.std.proofs.Common.{[], subst}
use Rattle.svc_types.specs.Keys.{IsKey}
use Rattle.svc_types.specs.declared.replies.Reply.{Reply}
use Rattle.svc_world.specs.World.{accepted}
use Rattle.svc_world.specs.Judging.{IsHistory}
use Rattle.svc_core.proofs.CoreLemmas.{history_more}
use Rattle.serv_engine.specs.Engines.{reply_of}
use Rattle.serv_engine.proofs.RunningLemmas.{none_kept_of, none_begun_of}
use Rattle.serv_machine.specs.History.{kept_history}
use Rattle.serv_engine.proofs.RunningLemmas.{durable_running}
use Rattle.serv_machine.specs.EngineLaws.{durable_kept, running_whole}
use Rattle.serv_machine.specs.OnDisk.{OnDisk}
use Rattle.serv_machine.proofs.EngineLemmas.{long_enough, running_base, act_reply, act_fault_is, act_after, kept_but, kept_behind, same_held, taken_disk, kept_disk, stopped_disk, err_same, disk_fault_is, fault_fresh}
use Rattle.serv_machine.proofs.over_journal.EngineMachine.begin.Goals as goal

pub begin-requires-clause-running : goal.begin-requires-clause-running
begin-requires-clause-running g c = durable_running (g.D.Disk.view c.args.disk.now).images c.args.self.now c.requires.ready.2

pub returns-in-Ok-clause-reply : goal.returns-in-Ok-clause-reply
returns-in-Ok-clause-reply g c =
    let e = c.args.self.now in
    let b = running_base (g.D.Disk.view c.args.disk.now).images e (durable_running (g.D.Disk.view c.args.disk.now).images e c.requires.ready.2) c.requires.ready.1 in
    rw c.reply.ensures (act_reply e c.args.key.now c.args.command.now (reply_of c.in-Ok.taken) (long_enough e b.0 b.1) c.in-Ok.ensures.reply c.in-Ok.ensures.room)

pub returns-in-Ok-clause-after : goal.returns-in-Ok-clause-after
returns-in-Ok-clause-after g c =
    let e = c.args.self.now in
    let b = running_base (g.D.Disk.view c.args.disk.now).images e (durable_running (g.D.Disk.view c.args.disk.now).images e c.requires.ready.2) c.requires.ready.1 in
    act_after e c.begin.new.self c.args.key.now c.args.command.now b.0 (reply_of c.in-Ok.taken) c.in-Ok.ensures.reply b.1 c.in-Ok.ensures.history c.begin.ensures.limit (c.in-Ok.ensures.length b.0 b.1) c.in-Ok.ensures.room

pub returns-in-Ok-clause-kept : goal.returns-in-Ok-clause-kept
returns-in-Ok-clause-kept g c =
    let e = c.args.self.now in
    let b = running_base (g.D.Disk.view c.args.disk.now).images e (durable_running (g.D.Disk.view c.args.disk.now).images e c.requires.ready.2) c.requires.ready.1 in
    kept_but e c.begin.new.self c.args.key.now c.args.command.now b.0 b.1 _ (λ same. same.0) _ (λ behind. behind.0) c.in-Ok.taken c.in-Ok.ensures.taken (durable_kept (g.D.Disk.view c.args.disk.now).images e c.requires.ready.2)
    (c.in-Ok.ensures.length b.0 b.1) c.begin.ensures.limit c.in-Ok.ensures.room

pub returns-in-Ok-clause-disk : goal.returns-in-Ok-clause-disk
returns-in-Ok-clause-disk g c = λ _.
    let e = c.args.self.now in
    let b = running_base (g.D.Disk.view c.args.disk.now).images e (durable_running (g.D.Disk.view c.args.disk.now).images e c.requires.ready.2) c.requires.ready.1 in
    subst (λ h. OnDisk g.D.Disk.view c.args.disk.now c.begin.new.disk h (kept_history c.begin.new.self) []) (durable_kept (g.D.Disk.view c.args.disk.now).images e c.requires.ready.2)
    (taken_disk g.D.Disk.view c.args.disk.now c.begin.new.disk e c.begin.new.self
    (g.met.D.Disk.only_now c.args.disk.now) c.requires.ready.1 (durable_running (g.D.Disk.view c.args.disk.now).images e c.requires.ready.2) c.begin.ensures.moments _
    (λ behind. kept_behind e c.begin.new.self b.0 behind.0 b.1 (c.in-Ok.ensures.length b.0 b.1) c.begin.ensures.limit) c.in-Ok.taken _ c.in-Ok.ensures.taken
    (subst IsHistory c.core.ensures c.history_holds.ensures.history) (running_whole (g.D.Disk.view c.begin.new.disk).images c.begin.new.self c.begin.ensures.version c.in-Ok.ensures.running))

pub returns-in-Err-clause-fault : goal.returns-in-Err-clause-fault
returns-in-Err-clause-fault g c =
    let e = c.args.self.now in
    let b = running_base (g.D.Disk.view c.args.disk.now).images e (durable_running (g.D.Disk.view c.args.disk.now).images e c.requires.ready.2) c.requires.ready.1 in
    rw c.act_fault.ensures
    (act_fault_is e c.args.key.now c.args.command.now (g.D.Disk.faults c.args.disk.now) (g.D.Disk.faults c.begin.new.disk) c.in-Err.fault (long_enough e b.0 b.1) c.in-Err.ensures.fault)

pub returns-in-Err-clause-same : goal.returns-in-Err-clause-same
returns-in-Err-clause-same g c =
    let e = c.args.self.now in
    same_held e c.begin.new.self c.in-Err.ensures.err c.in-Err.ensures.size c.begin.ensures.limit c.in-Err.ensures.same_kept.0 (none_kept_of e c.requires.ready.2.kept.gate)

pub returns-in-Err-clause-disk : goal.returns-in-Err-clause-disk
returns-in-Err-clause-disk g c =
    let e = c.args.self.now in
    rw c.act_fault.ensures (λ other.
    subst (λ h. OnDisk g.D.Disk.view c.args.disk.now c.begin.new.disk h (kept_history c.begin.new.self) []) (durable_kept (g.D.Disk.view c.args.disk.now).images e c.requires.ready.2)
    (kept_disk g.D.Disk.view c.args.disk.now c.begin.new.disk e c.begin.new.self
    (g.met.D.Disk.only_now c.args.disk.now) c.requires.ready.1 (durable_running (g.D.Disk.view c.args.disk.now).images e c.requires.ready.2) c.begin.ensures.moments
    (err_same {T = Reply} c.args.disk.now c.begin.new.disk e c.begin.new.self c.in-Err.fault other c.in-Err.ensures.kept)))

pub returns-in-Err-clause-torn : goal.returns-in-Err-clause-torn
returns-in-Err-clause-torn g c =
    rw c.act_fault.ensures (λ stopped.
    let e = c.args.self.now in
    let a = accepted c.args.key.now c.args.command.now in
    let fresh = fault_fresh e a _ _ _ c.in-Err.fault c.in-Err.ensures.fault (disk_fault_is c.in-Err.fault stopped) in
    let gate = c.requires.ready.2.kept.gate in
    stopped_disk g.D.Disk.view c.args.disk.now c.begin.new.disk e c.begin.new.self
    (g.met.D.Disk.only_now c.args.disk.now) c.requires.ready.1 (durable_running (g.D.Disk.view c.args.disk.now).images e c.requires.ready.2) c.begin.ensures.moments a
    (durable_kept (g.D.Disk.view c.args.disk.now).images e c.requires.ready.2) (none_begun_of e gate)
    (history_more e.history c.args.key.now c.args.command.now (subst IsHistory c.core.ensures c.history_holds.ensures.history)
    (subst IsKey c.bytes.ensures.value c.bytes.ensures.key) c.requires.command fresh) c.begin.ensures.good)
