use Rattle.std.proofs.Common.{◌++◌, ap, ◌∙◌}
use Rattle.serv_machine.proofs.OnDiskLemmas.{disk_none}
use Rattle.serv_links.proofs.meaning.MeaningSpoken.answer.Goals as goal

pub returns-in_err-response-in-Faulty-clause-disk : goal.returns-in_err-response-in-Faulty-clause-disk
returns-in_err-response-in-Faulty-clause-disk g c = λ other.
    disk_none g.D.Disk.view c.args.disk.now _ _ (g.met.M.Machine.settled c.args.machine.now c.args.disk.now c.requires.ready).1
    (g.met.M.Machine.keeps c.args.machine.now c.args.disk.now c.requires.ready) (g.met.D.Disk.only_now c.args.disk.now)

pub returns-in_err-push_response-in-Faulty-clause-disk : goal.returns-in_err-push_response-in-Faulty-clause-disk
returns-in_err-push_response-in-Faulty-clause-disk g c = λ other.
    disk_none g.D.Disk.view c.args.disk.now _ _ (g.met.M.Machine.settled c.args.machine.now c.args.disk.now c.requires.ready).1
    (g.met.M.Machine.keeps c.args.machine.now c.args.disk.now c.requires.ready) (g.met.D.Disk.only_now c.args.disk.now)

pub returns-in_ok-push_response-in-Faulty-clause-reply : goal.returns-in_ok-push_response-in-Faulty-clause-reply
returns-in_ok-push_response-in-Faulty-clause-reply g c = rw c.in-Faulty.is (c.in_ok-push_response-in-Faulty.ensures.added ∙ ap (λ x. c.args.out.now.items ++ x) (c.deref-in-Faulty.ensures.value ∙ c.in_ok-response-in-Faulty.ensures))

pub returns-in_ok-push_response-in-Faulty-clause-disk : goal.returns-in_ok-push_response-in-Faulty-clause-disk
returns-in_ok-push_response-in-Faulty-clause-disk g c = λ other.
    disk_none g.D.Disk.view c.args.disk.now _ _ (g.met.M.Machine.settled c.args.machine.now c.args.disk.now c.requires.ready).1
    (g.met.M.Machine.keeps c.args.machine.now c.args.disk.now c.requires.ready) (g.met.D.Disk.only_now c.args.disk.now)
