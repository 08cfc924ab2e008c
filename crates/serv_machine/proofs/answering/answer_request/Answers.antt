use Rattle.std.proofs.Common.{inl}
use Rattle.serv_machine.proofs.OnDiskLemmas.{disk_none}
use Rattle.serv_machine.proofs.answering.answer_request.Goals as goal

pub returns-in_err-answer_query-in-Ask-clause-disk : goal.returns-in_err-answer_query-in-Ask-clause-disk
returns-in_err-answer_query-in-Ask-clause-disk g c = λ other.
    disk_none g.D.Disk.view c.args.disk.now _ _ (g.met.M.Machine.settled c.args.machine.now c.args.disk.now c.requires.ready).1
    (g.met.M.Machine.keeps c.args.machine.now c.args.disk.now c.requires.ready) (g.met.D.Disk.only_now c.args.disk.now)

pub returns-in_err-answer_query-in-Ask-clause-kept : goal.returns-in_err-answer_query-in-Ask-clause-kept
returns-in_err-answer_query-in-Ask-clause-kept g c = λ other. inl (g.met.M.Machine.settled c.args.machine.now c.args.disk.now c.requires.ready).1

pub returns-in_err-answer_query-in-Ask-clause-running : goal.returns-in_err-answer_query-in-Ask-clause-running
returns-in_err-answer_query-in-Ask-clause-running g c = λ other. (g.met.M.Machine.settled c.args.machine.now c.args.disk.now c.requires.ready).0

pub returns-in_ok-answer_query-in-Ask-clause-disk : goal.returns-in_ok-answer_query-in-Ask-clause-disk
returns-in_ok-answer_query-in-Ask-clause-disk g c = λ other.
    disk_none g.D.Disk.view c.args.disk.now _ _ (g.met.M.Machine.settled c.args.machine.now c.args.disk.now c.requires.ready).1
    (g.met.M.Machine.keeps c.args.machine.now c.args.disk.now c.requires.ready) (g.met.D.Disk.only_now c.args.disk.now)

pub returns-in_ok-answer_query-in-Ask-clause-kept : goal.returns-in_ok-answer_query-in-Ask-clause-kept
returns-in_ok-answer_query-in-Ask-clause-kept g c = λ other. inl (g.met.M.Machine.settled c.args.machine.now c.args.disk.now c.requires.ready).1

pub returns-in_ok-answer_query-in-Ask-clause-running : goal.returns-in_ok-answer_query-in-Ask-clause-running
returns-in_ok-answer_query-in-Ask-clause-running g c = λ other. (g.met.M.Machine.settled c.args.machine.now c.args.disk.now c.requires.ready).0
