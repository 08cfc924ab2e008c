use Rattle.serv_disk.specs.Faults.{HasRisen}
use Rattle.serv_machine.specs.Answering.{AreReplies}
use Rattle.serv_machine.specs.History.{stand}
use Rattle.serv_machine.specs.Sayings.{SaidFirst}
use Rattle.serv_machine.proofs.UpheldLemmas.{upheld_wider}
use Rattle.serv_links.specs.Meanings.{Says}
use Rattle.serv_links.specs.Outcomes.{AreAnswers}
use Rattle.serv_links.proofs.AnsweredLemmas.{answers_alone, last_upheld}
use Rattle.serv_links.proofs.RoundLemmas.{front_later, risen_last, stops_ended}
use Rattle.serv_links.proofs.answering.answer_all.Goals as goal

pub returns-in-Err-clause-round : goal.returns-in-Err-clause-round
returns-in-Err-clause-round g c =
    rw c.in-Err.is
    (stops_ended g.D.Disk.view (HasRisen (g.K.Sink.faults c.args.link.now) (g.K.Sink.faults c.write_last.new.link)) c.in-Err.why c.args.disk.now c.answer_in_turn-round.new.disk _ c.args.asks.now _ _ _ _
    (g.K.Sink.held c.args.link.now) (g.K.Sink.held c.answer_in_turn-round.new.link) (g.K.Sink.held c.write_last.new.link) (rw c.in-Err.is at c.answer_in_turn-round.ensures.stops)
    (front_later _ _ _ _ _ (risen_last _ _ _ c.answer_in_turn-round.ensures.later c.write_last.ensures.later) c.write_last.ensures.front))

pub returns-in-Err-clause-upheld : goal.returns-in-Err-clause-upheld
returns-in-Err-clause-upheld g c =
    last_upheld g.D.Disk.view c.answer_in_turn-round.new.disk (g.met.D.Disk.only_now c.answer_in_turn-round.new.disk) c.args.disk.now c.in-Err.why _ c.args.asks.now
    (stand (g.M.Machine.kept c.args.machine.now) c.args.steps.now) (stand (g.M.Machine.kept c.answer_in_turn-round.new.machine) c.answer_in_turn-round.new.steps)
    (g.K.Sink.held c.args.link.now) (g.K.Sink.held c.answer_in_turn-round.new.link) _ _ _ (rw c.in-Err.is at c.answer_in_turn-round.ensures.stops) c.answer_in_turn-round.ensures.upheld c.write_last.ensures.noted

pub returns-in_default-clause-upheld : goal.returns-in_default-clause-upheld
returns-in_default-clause-upheld g c =
    upheld_wider (AreReplies (SaidFirst Says c.args.asks.now) (g.M.Machine.kept c.args.machine.now)) (AreAnswers c.args.asks.now (g.M.Machine.kept c.args.machine.now)) _ _
    (answers_alone c.args.asks.now (g.M.Machine.kept c.args.machine.now)) _ _ _ c.answer_in_turn-round.ensures.upheld
