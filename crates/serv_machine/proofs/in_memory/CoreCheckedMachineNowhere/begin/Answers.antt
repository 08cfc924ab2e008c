use Rattle.std.proofs.Common.{subst}
use Rattle.svc_types.specs.Keys.{IsKey}
use Rattle.serv_machine.proofs.MemoryLemmas.{memory_reply, memory_after, memory_refused, memory_wanted, memory_disk, memory_same}
use Rattle.serv_machine.proofs.in_memory.CoreCheckedMachineNowhere.begin.Goals as goal

pub returns-in-Ok-clause-reply : goal.returns-in-Ok-clause-reply
returns-in-Ok-clause-reply g c = memory_reply c.args.self.now.history c.args.key.now c.args.command.now c.in-Ok.reply c.in-Ok.ensures.reply

pub returns-in-Ok-clause-after : goal.returns-in-Ok-clause-after
returns-in-Ok-clause-after g c = memory_after c.args.self.now.history c.submit.new.self.history c.args.key.now c.args.command.now c.in-Ok.ensures.history

pub returns-in-Ok-clause-disk : goal.returns-in-Ok-clause-disk
returns-in-Ok-clause-disk g c = λ _. memory_disk c.args.arg2.now c.args.self.now.history c.submit.new.self.history c.args.key.now c.args.command.now c.in-Ok.ensures.history (subst IsKey c.bytes.ensures.value c.bytes.ensures.key) c.requires.command

pub returns-in-Err-Refused-clause-fault : goal.returns-in-Err-Refused-clause-fault
returns-in-Err-Refused-clause-fault g c = memory_refused c.args.self.now.history c.args.key.now c.args.command.now c.in-Err-Refused.why (rw c.in-Err-Refused.field-0-is at c.in-Err-Refused.ensures.fault)

pub returns-in-Err-Refused-clause-disk : goal.returns-in-Err-Refused-clause-disk
returns-in-Err-Refused-clause-disk g c = λ _. memory_same c.args.arg2.now c.args.self.now.history c.submit.new.self.history c.in-Err-Refused.ensures.err

pub returns-in-Err-OutOfMemory-clause-fault : goal.returns-in-Err-OutOfMemory-clause-fault
returns-in-Err-OutOfMemory-clause-fault g c = memory_wanted c.args.self.now.history c.args.key.now c.args.command.now (rw c.in-Err-OutOfMemory.field-0-is at c.in-Err-OutOfMemory.ensures.fault)

pub returns-in-Err-OutOfMemory-clause-disk : goal.returns-in-Err-OutOfMemory-clause-disk
returns-in-Err-OutOfMemory-clause-disk g c = λ _. memory_same c.args.arg2.now c.args.self.now.history c.submit.new.self.history c.in-Err-OutOfMemory.ensures.err
