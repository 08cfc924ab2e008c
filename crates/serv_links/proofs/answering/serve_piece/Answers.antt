use Rattle.std.proofs.Common.{◌++◌, refl, inl, inr}
use Rattle.serv_disk.specs.Faults.{HasRisen}
use Rattle.serv_machine.specs.History.{stand}
use Rattle.serv_machine.proofs.OnDiskLemmas.{disk_none}
use Rattle.serv_machine.proofs.UpheldLemmas.{upheld_wider}
use Rattle.serv_links.specs.Outcomes.{AreAnswers, AreAnswersOf, AreRead}
use Rattle.serv_links.proofs.AnsweredLemmas.{unread_upheld}
use Rattle.serv_links.proofs.AskLemmas.{asks_are}
use Rattle.serv_links.proofs.RoundLemmas.{piece_of, unread_ended}
use Rattle.serv_machine.proofs.GatheredLemmas.{writes_as}
use Rattle.serv_links.proofs.answering.serve_piece.Goals as goal

pub answer_all-requires-clause-asks : goal.answer_all-requires-clause-asks
answer_all-requires-clause-asks g c =
    let fed = c.in-Ok.ensures.asks c.requires.stands.0 c.requires.stands.1 in
    rw c.deref.ensures.value (asks_are (c.requires.stands.0 ++ c.args.piece.now) c.in-Ok.asks.items fed.0 fed.1)

pub returns-in-Ok-clause-piece : goal.returns-in-Ok-clause-piece
returns-in-Ok-clause-piece g c = λ s stands.
    let t = stand (g.M.Machine.kept c.args.machine.now) c.args.steps.now in
    let t' = stand (g.M.Machine.kept c.answer_all.new.machine) c.answer_all.new.steps in
    writes_as g.D.Disk.view c.args.disk.now c.answer_all.new.disk _ _ _ _ _ _
    (λ pending w. piece_of _ c.answer_all.result.outcome c.answer_all.result.answered c.in-Ok.asks.items (s ++ c.args.piece.now) c.feed.new.self t t' pending w (c.in-Ok.ensures.asks s stands)) (rw c.deref.ensures.value at c.answer_all.ensures.round)

pub returns-in-Err-clause-piece : goal.returns-in-Err-clause-piece
returns-in-Err-clause-piece g c = λ s stands.
    unread_ended g.D.Disk.view (AreRead (s ++ c.args.piece.now)) (inl refl) (HasRisen (g.K.Sink.faults c.args.link.now) (g.K.Sink.faults c.write_last.new.link)) c.args.disk.now
    (stand (g.M.Machine.kept c.args.machine.now) c.args.steps.now) (g.K.Sink.held c.args.link.now) (g.K.Sink.held c.write_last.new.link) c.write_last.ensures.front
    (disk_none g.D.Disk.view c.args.disk.now _ _ refl (g.met.M.Machine.keeps_running c.args.machine.now c.args.disk.now (g.met.M.Machine.settled c.args.machine.now c.args.disk.now c.requires.ready).0) (g.met.D.Disk.only_now c.args.disk.now))

pub returns-in-Ok-clause-upheld : goal.returns-in-Ok-clause-upheld
returns-in-Ok-clause-upheld g c = λ s stands.
    let fed = c.in-Ok.ensures.asks s stands in
    upheld_wider (AreAnswers c.in-Ok.asks.items (g.M.Machine.kept c.args.machine.now)) (AreAnswersOf (AreRead (s ++ c.args.piece.now)) (g.M.Machine.kept c.args.machine.now)) _ _
    (λ bytes commands is. record { asks = c.in-Ok.asks.items; known = inr (fed.0, fed.1); answers = is }) _ _ _ (rw c.deref.ensures.value at c.answer_all.ensures.upheld)

pub returns-in-Err-clause-upheld : goal.returns-in-Err-clause-upheld
returns-in-Err-clause-upheld g c = λ s stands.
    unread_upheld g.D.Disk.view c.args.disk.now (g.met.D.Disk.only_now c.args.disk.now) (AreRead (s ++ c.args.piece.now)) (inl refl) (stand (g.M.Machine.kept c.args.machine.now) c.args.steps.now) _ _ _
    (disk_none g.D.Disk.view c.args.disk.now _ _ refl (g.met.M.Machine.keeps_running c.args.machine.now c.args.disk.now (g.met.M.Machine.settled c.args.machine.now c.args.disk.now c.requires.ready).0) (g.met.D.Disk.only_now c.args.disk.now))
    c.write_last.ensures.noted
