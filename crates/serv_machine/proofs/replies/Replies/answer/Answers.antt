use Rattle.serv_machine.specs.History.{stand}
use Rattle.serv_machine.proofs.UpheldLemmas.{upheld_none}
use Rattle.serv_machine.proofs.AnsweringLemmas.{writes_all}
use Rattle.serv_machine.proofs.GatheredLemmas.{given_up, one_more}
use Rattle.serv_machine.proofs.replies.Replies.answer.Goals as goal

pub returns-in-Ok-clause-gathered : goal.returns-in-Ok-clause-gathered
returns-in-Ok-clause-gathered g c = λ before s held gathers.
    one_more _ before s gathers (g.met.M.Machine.settled c.args.machine.now c.args.disk.now c.requires.ready).1 c.requires.few (g.S.Spoken.saying c.args.said.now) _ _ c.in-Ok.ensures.replied

pub returns-in-Ok-clause-upheld : goal.returns-in-Ok-clause-upheld
returns-in-Ok-clause-upheld g c = λ before s held gathers. upheld_none _ _ _ _ _

pub returns-in-Ok-clause-disk : goal.returns-in-Ok-clause-disk
returns-in-Ok-clause-disk g c = rw (g.met.M.Machine.settled c.args.machine.now c.args.disk.now c.requires.ready).1 c.in-Ok.ensures.disk

pub returns-in-Err-clause-stopped : goal.returns-in-Err-clause-stopped
returns-in-Err-clause-stopped g c = λ before s held gathers.
    let front = rw c.in-Err.ensures.same at c.write_all.ensures.front in
    given_up _ before s gathers (g.met.M.Machine.settled c.args.machine.now c.args.disk.now c.requires.ready).1 c.requires.few (g.S.Spoken.saying c.args.said.now)
    (stand (g.M.Machine.kept c.add.new.machine) c.add.new.steps) _ front.0 front.1 g.D.Disk.view c.args.disk.now c.add.new.disk c.in-Err.stop c.in-Err.ensures.none

pub returns-in-Err-clause-upheld : goal.returns-in-Err-clause-upheld
returns-in-Err-clause-upheld g c = λ before s held gathers.
    writes_all g.D.Disk.view gathers c.args.disk.now c.add.new.disk (g.met.D.Disk.only_now c.add.new.disk) _ c.in-Err.ensures.none.pending c.in-Err.ensures.none.disk
    (rw c.in-Err.ensures.same at c.write_all.ensures.noted)
