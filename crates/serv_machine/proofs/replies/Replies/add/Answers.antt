use Rattle.std.proofs.Common.{◌∙◌, ap, Err}
use Rattle.serv_machine.specs.History.{running, stand}
use Rattle.serv_machine.proofs.GatheredLemmas.{none_starved, none_stuck, none_torn}
use Rattle.serv_machine.proofs.replies.Replies.add.Goals as goal

pub returns-in-Ok-clause-replied : goal.returns-in-Ok-clause-replied
returns-in-Ok-clause-replied g c = record { added = c.in-Ok.ensures.reply; after = c.in-Ok.ensures.history; held = c.answer.ensures.kept (λ is. let done = c.in-Ok.is in cc); cost = c.answer.ensures.steps }

pub returns-in-Ok-clause-disk : goal.returns-in-Ok-clause-disk
returns-in-Ok-clause-disk g c = c.answer.ensures.disk (λ is. let done = c.in-Ok.is in cc)

pub returns-in-Err-DiskFault-clause-none : goal.returns-in-Err-DiskFault-clause-none
returns-in-Err-DiskFault-clause-none g c =
    let fault = ap Err c.in-Err-DiskFault.field-0-is in
    none_stuck g.D.Disk.view (g.S.Spoken.saying c.args.said.now) (stand (g.M.Machine.history c.args.machine.now) c.args.steps.now) c.args.disk.now c.answer.new.disk
    (g.M.Machine.kept c.answer.new.machine) c.answer.new.steps (c.in-Err-DiskFault.ensures.appending fault) (c.in-Err-DiskFault.ensures.stopped fault).0 c.answer.ensures.steps (c.in-Err-DiskFault.ensures.torn fault)

pub returns-in-Ok-commit-clause-none : goal.returns-in-Ok-commit-clause-none
returns-in-Ok-commit-clause-none g c =
    let all = (g.met.M.Machine.settled c.commit.new.self c.commit.new.disk c.in-Ok-commit.ensures.ready).1 ∙ c.commit.ensures.history in
    none_starved g.D.Disk.view (g.S.Spoken.saying c.args.said.now) (stand (g.M.Machine.history c.args.machine.now) c.args.steps.now) c.args.disk.now c.answer.new.disk c.commit.new.disk
    (running (g.M.Machine.history c.answer.new.machine) (g.M.Machine.kept c.answer.new.machine) c.answer.new.steps) (g.M.Machine.kept c.commit.new.self) c.answer.ensures.near c.answer.ensures.steps
    (c.in-Err-OutOfMemory.ensures.disk (λ is. let memory = c.in-Err-OutOfMemory.field-0-is in cc)) all c.in-Ok-commit.ensures.disk

pub returns-in-Err-clause-none : goal.returns-in-Err-clause-none
returns-in-Err-clause-none g c =
    none_torn g.D.Disk.view (g.S.Spoken.saying c.args.said.now) (stand (g.M.Machine.history c.args.machine.now) c.args.steps.now) c.args.disk.now c.answer.new.disk c.commit.new.disk
    (running (g.M.Machine.history c.answer.new.machine) (g.M.Machine.kept c.answer.new.machine) c.answer.new.steps) (g.M.Machine.kept c.commit.new.self) c.answer.ensures.near c.answer.ensures.steps
    (c.in-Err-OutOfMemory.ensures.disk (λ is. let memory = c.in-Err-OutOfMemory.field-0-is in cc)) (c.in-Err-OutOfMemory.ensures.kept (λ is. let memory = c.in-Err-OutOfMemory.field-0-is in cc))
    c.in-Err.ensures.same c.in-Err.ensures.torn
