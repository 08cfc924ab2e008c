use Rattle.serv_machine.proofs.OnDiskLemmas.{disk_none}
use Rattle.serv_top.proofs.said.SaidSpoken.answer.Goals as goal

pub returns-in_err-push_bad-in-Faulty-clause-disk : goal.returns-in_err-push_bad-in-Faulty-clause-disk
returns-in_err-push_bad-in-Faulty-clause-disk g c = λ other.
    disk_none g.D.Disk.view c.args.disk.now _ _ (g.met.M.Machine.settled c.args.machine.now c.args.disk.now c.requires.ready).1
    (g.met.M.Machine.keeps c.args.machine.now c.args.disk.now c.requires.ready) (g.met.D.Disk.only_now c.args.disk.now)

pub returns-in_err-push_bad_row-in-Unfit-clause-disk : goal.returns-in_err-push_bad_row-in-Unfit-clause-disk
returns-in_err-push_bad_row-in-Unfit-clause-disk g c = λ other.
    disk_none g.D.Disk.view c.args.disk.now _ _ (g.met.M.Machine.settled c.args.machine.now c.args.disk.now c.requires.ready).1
    (g.met.M.Machine.keeps c.args.machine.now c.args.disk.now c.requires.ready) (g.met.D.Disk.only_now c.args.disk.now)

pub returns-in_ok-push_bad-in-Faulty-clause-disk : goal.returns-in_ok-push_bad-in-Faulty-clause-disk
returns-in_ok-push_bad-in-Faulty-clause-disk g c = λ other.
    disk_none g.D.Disk.view c.args.disk.now _ _ (g.met.M.Machine.settled c.args.machine.now c.args.disk.now c.requires.ready).1
    (g.met.M.Machine.keeps c.args.machine.now c.args.disk.now c.requires.ready) (g.met.D.Disk.only_now c.args.disk.now)

pub returns-in_ok-push_bad_row-in-Unfit-clause-disk : goal.returns-in_ok-push_bad_row-in-Unfit-clause-disk
returns-in_ok-push_bad_row-in-Unfit-clause-disk g c = λ other.
    disk_none g.D.Disk.view c.args.disk.now _ _ (g.met.M.Machine.settled c.args.machine.now c.args.disk.now c.requires.ready).1
    (g.met.M.Machine.keeps c.args.machine.now c.args.disk.now c.requires.ready) (g.met.D.Disk.only_now c.args.disk.now)
