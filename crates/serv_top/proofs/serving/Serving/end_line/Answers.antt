use Rattle.std.proofs.Common.{rules, sym, [], append-nil}
use Rattle.serv_machine.specs.Sayings.{SaidFirst}
use Rattle.serv_machine.proofs.AnsweringLemmas.{replies_wider}
use Rattle.serv_machine.proofs.GatheredLemmas.{stops_wider}
use Rattle.serv_top.specs.Lines.{Says, saying_of}
use Rattle.serv_top.proofs.ServedLemmas.{served_line, first_line}
use Rattle.serv_top.proofs.serving.Serving.end_line.Goals as goal

pub returns-in-Ok-clause-fed : goal.returns-in-Ok-clause-fed
returns-in-Ok-clause-fed g c = λ before s held run.
    served_line _ before run (saying_of c.said_in-said.result) (rw c.deref.ensures.value at c.said_in-said.ensures.says) _ _ _ _ (search rules) (c.in-Ok.ensures.gathered run.said s held run.gathers)

pub returns-in-Ok-clause-upheld : goal.returns-in-Ok-clause-upheld
returns-in-Ok-clause-upheld g c = λ before s held run.
    replies_wider _ (SaidFirst Says _) (g.D.Disk.view c.act.new.disk) (g.M.Machine.kept c.act.new.machine) s.history held _ _
    (λ done first. first_line _ before run (saying_of c.said_in-said.result) (rw c.deref.ensures.value at c.said_in-said.ensures.says) _ [] (sym (append-nil _)) done [] first) (c.act.ensures.upheld run.said s held run.gathers)

pub returns-in-Err-clause-stopped : goal.returns-in-Err-clause-stopped
returns-in-Err-clause-stopped g c = λ before s held run.
    stops_wider _ _ (first_line _ before run (saying_of c.said_in-said.result) (rw c.deref.ensures.value at c.said_in-said.ensures.says) _ [] (sym (append-nil _))) _ s _
    g.D.Disk.view c.args.disk.now c.act.new.disk c.in-Err.stop _ _ held _ (c.in-Err.ensures.stopped run.said s held run.gathers)

pub returns-in-Err-clause-upheld : goal.returns-in-Err-clause-upheld
returns-in-Err-clause-upheld g c = λ before s held run.
    replies_wider _ (SaidFirst Says _) (g.D.Disk.view c.act.new.disk) (g.M.Machine.kept c.act.new.machine) s.history held _ _
    (λ done first. first_line _ before run (saying_of c.said_in-said.result) (rw c.deref.ensures.value at c.said_in-said.ensures.says) _ [] (sym (append-nil _)) done [] first) (c.act.ensures.upheld run.said s held run.gathers)
