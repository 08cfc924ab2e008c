use Rattle.std.proofs.Common.{refl, ap, Err}
use Rattle.serv_links.proofs.GatheredLemmas.{gathered_as, last_stops, no_length, told_upheld}
use Rattle.serv_links.proofs.responses.Responses.settle.Goals as goal

pub returns-in-Ok-clause-gathered : goal.returns-in-Ok-clause-gathered
returns-in-Ok-clause-gathered g c = λ done s steps held are. gathered_as _ done s _ held _ _ are _ _ _ _ refl (λ saids. (rw c.requires.waiting at c.in-Ok.ensures.gathered) saids s steps held)

pub returns-in-Ok-clause-upheld : goal.returns-in-Ok-clause-upheld
returns-in-Ok-clause-upheld g c = λ done s steps held are. told_upheld _ done s _ held _ _ are _ s.history _ _ _ (λ saids. (rw c.requires.waiting at c.let_go.ensures.upheld) saids s steps held)

pub returns-in-Ok-clause-empty : goal.returns-in-Ok-clause-empty
returns-in-Ok-clause-empty g c = no_length _ c.in-Ok.ensures.few

pub returns-in-Err-clause-stopped : goal.returns-in-Err-clause-stopped
returns-in-Err-clause-stopped g c = λ done s steps held are.
    last_stops _ done s _ held _ _ are g.D.Disk.view c.let_go.new.disk c.in-Err.why _ _ _ _ c.args.disk.now _ c.saturating_sub-self.ensures (λ is. c.in-Err.ensures.memory (ap Err is))
    (λ saids. (rw c.requires.waiting at c.in-Err.ensures.stopped) saids s steps held)

pub returns-in-Err-clause-upheld : goal.returns-in-Err-clause-upheld
returns-in-Err-clause-upheld g c = λ done s steps held are. told_upheld _ done s _ held _ _ are _ s.history _ _ _ (λ saids. (rw c.requires.waiting at c.let_go.ensures.upheld) saids s steps held)
