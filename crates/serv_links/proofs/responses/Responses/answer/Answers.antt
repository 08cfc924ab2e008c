use Rattle.std.proofs.Common.{[], ◌∷◌, refl, ap, Err}
use Rattle.serv_machine.proofs.OnDiskLemmas.{disk_more}
use Rattle.serv_machine.proofs.GatheredLemmas.{stops_wider}
use Rattle.serv_links.specs.Meanings.{means, saying_of}
use Rattle.serv_links.specs.Outcomes.{ComeFirst}
use Rattle.serv_links.proofs.GatheredLemmas.{first_upheld, for_memory, gathered_more, more_upheld, one_stops, unread_stops}
use Rattle.serv_links.proofs.RoundLemmas.{come_wider}
use Rattle.serv_links.proofs.responses.Responses.answer.Goals as goal

pub returns-in-Ok-answer-clause-gathered : goal.returns-in-Ok-answer-clause-gathered
returns-in-Ok-answer-clause-gathered g c = λ done s held are.
    gathered_more _ done s _ held _ _ (c.in-Ok.ensures.gathered done s c.args.steps.now held are) _ c.args.ask.now (saying_of c.in-Ok-read.meaning) _ _ _ (means c.in-Ok-read.meaning (rw c.in-Ok-read.is at c.read_ask-read.ensures.means)) refl
    (λ saids. (rw c.settle.ensures.waiting at c.in-Ok-answer.ensures.gathered) saids s held)

pub returns-in-Ok-answer-clause-upheld : goal.returns-in-Ok-answer-clause-upheld
returns-in-Ok-answer-clause-upheld g c = λ done s held are.
    more_upheld _ done s _ held _ _ (c.in-Ok.ensures.gathered done s c.args.steps.now held are) g.D.Disk.view c.settle.new.disk c.answer.new.disk _ _ s.history _ _ _ (c.args.ask.now ∷ [])
    (λ saids all. ([], c.in-Ok-answer.ensures.disk)) (c.settle.ensures.upheld done s c.args.steps.now held are) (λ saids. (rw c.settle.ensures.waiting at c.answer.ensures.upheld) saids s held)

pub returns-in-Ok-answer-clause-disk : goal.returns-in-Ok-answer-clause-disk
returns-in-Ok-answer-clause-disk g c =
    disk_more g.D.Disk.view c.args.disk.now c.settle.new.disk c.answer.new.disk _ _ _ [] c.in-Ok.ensures.disk c.in-Ok-answer.ensures.disk

pub returns-in-Err-answer-clause-stopped : goal.returns-in-Err-answer-clause-stopped
returns-in-Err-answer-clause-stopped g c = λ done s held are.
    one_stops _ done s _ held _ _ (c.in-Ok.ensures.gathered done s c.args.steps.now held are) g.D.Disk.view c.answer.new.disk c.in-Err-answer.why _ _ _ _ c.args.disk.now c.settle.new.disk _ c.args.ask.now
    (saying_of c.in-Ok-read.meaning) (means c.in-Ok-read.meaning (rw c.in-Ok-read.is at c.read_ask-read.ensures.means)) c.in-Ok.ensures.disk (λ saids. (rw c.settle.ensures.waiting at c.in-Err-answer.ensures.stopped) saids s held)

pub returns-in-Err-answer-clause-upheld : goal.returns-in-Err-answer-clause-upheld
returns-in-Err-answer-clause-upheld g c = λ done s held are.
    more_upheld _ done s _ held _ _ (c.in-Ok.ensures.gathered done s c.args.steps.now held are) g.D.Disk.view c.settle.new.disk c.answer.new.disk _ _ s.history _ _ _ (c.args.ask.now ∷ [])
    (λ saids all. let stops = (rw c.settle.ensures.waiting at c.in-Err-answer.ensures.stopped) saids s held all in (stops.pending, stops.disk))
    (c.settle.ensures.upheld done s c.args.steps.now held are) (λ saids. (rw c.settle.ensures.waiting at c.answer.ensures.upheld) saids s held)

pub returns-in-Err-answer-clause-ready : goal.returns-in-Err-answer-clause-ready
returns-in-Err-answer-clause-ready g c = λ disk. c.in-Err-answer.ensures.ready (ap Err (for_memory c.in-Err-answer.why (λ is. c.in-Err-answer.ensures.taken (ap Err is)) disk))

pub returns-in-Err-answer-clause-broken : goal.returns-in-Err-answer-clause-broken
returns-in-Err-answer-clause-broken g c = λ is. absurd (c.in-Err-answer.ensures.taken (ap Err is))

pub returns-in-Err-read-clause-stopped : goal.returns-in-Err-read-clause-stopped
returns-in-Err-read-clause-stopped g c = λ done s held are.
    unread_stops _ done s _ held _ _ (c.in-Ok.ensures.gathered done s c.args.steps.now held are) c.in-Ok.ensures.empty (g.met.M.Machine.settled c.settle.new.machine c.settle.new.disk c.in-Ok.ensures.ready).1
    g.D.Disk.view c.args.disk.now c.settle.new.disk _ c.in-Ok.ensures.disk c.args.ask.now

pub returns-in-Err-read-clause-upheld : goal.returns-in-Err-read-clause-upheld
returns-in-Err-read-clause-upheld g c = λ done s held are. first_upheld done (c.args.ask.now ∷ []) _ _ s.history held _ _ (c.settle.ensures.upheld done s c.args.steps.now held are)

pub returns-in-Err-clause-stopped : goal.returns-in-Err-clause-stopped
returns-in-Err-clause-stopped g c = λ done s held are.
    stops_wider (ComeFirst _ done) _ (come_wider _ done (c.args.ask.now ∷ [])) 0 s _ g.D.Disk.view c.args.disk.now c.settle.new.disk c.in-Err.why _ _ held _
    (c.in-Err.ensures.stopped done s c.args.steps.now held are)

pub returns-in-Err-clause-upheld : goal.returns-in-Err-clause-upheld
returns-in-Err-clause-upheld g c = λ done s held are. first_upheld done (c.args.ask.now ∷ []) _ _ s.history held _ _ (c.settle.ensures.upheld done s c.args.steps.now held are)
