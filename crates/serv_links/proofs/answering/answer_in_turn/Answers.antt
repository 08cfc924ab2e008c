use Rattle.std.proofs.Common.{◌≡◌, ◌+◌, [], ◌∷◌, ◌++◌, take, drop, sym, ap, refl, ◌∙◌, arith, append-nil}
use Rattle.std.proofs.lemmas.List.{take_all, take_more}
use Rattle.serv_machine.specs.Answering.{AreReplies}
use Rattle.serv_machine.specs.History.{running, stand}
use Rattle.serv_machine.specs.Sayings.{SaidFirst}
use Rattle.serv_machine.proofs.OnDiskLemmas.{disk_more, disk_none}
use Rattle.serv_machine.proofs.UpheldLemmas.{upheld_none}
use Rattle.serv_links.specs.Meanings.{Says}
use Rattle.serv_links.proofs.GatheredLemmas.{all_answered, call_upheld, none_gathered, stop_upheld}
use Rattle.serv_links.proofs.RoundLemmas.{front_stops, parted}
use Rattle.serv_links.proofs.answering.answer_in_turn.Goals as goal

pub loop-ask-init : goal.loop-ask-init
loop-ask-init g c =
    let settled = g.met.M.Machine.settled c.args.machine.now c.args.disk.now c.requires.ready in
    record {
      gathered = none_gathered _ (stand (g.M.Machine.kept c.args.machine.now) c.args.steps.now) (running (g.M.Machine.history c.args.machine.now) (g.M.Machine.kept c.args.machine.now) c.args.steps.now) (g.K.Sink.held c.args.link.now) _
          c.new-responses.ensures.answered c.new-responses.ensures.text (sym settled.1) settled.1 (omega arith);
      waiting = c.new-responses.ensures.waiting;
      upheld = upheld_none (AreReplies (SaidFirst Says c.args.asks.now) (g.M.Machine.kept c.args.machine.now)) (g.D.Disk.view c.args.disk.now) _ _ _;
      disk = disk_none g.D.Disk.view c.args.disk.now _ _ refl (g.met.M.Machine.keeps_running c.args.machine.now c.args.disk.now settled.0) (g.met.D.Disk.only_now c.args.disk.now);
      count = c.new-responses.ensures.answered;
      running = settled.0;
      later = omega arith;
      faults = omega arith;
      beside = refl;
    }

pub loop-ask-preserved : goal.loop-ask-preserved
loop-ask-preserved g c =
    let i = c.loop-ask.ask-index in
    let s = stand (g.M.Machine.kept c.args.machine.now) c.args.steps.now in
    let held = g.K.Sink.held c.args.link.now in
    let next : take (i + 1) c.args.asks.now ≡ take i c.args.asks.now ++ c.ask-item.result ∷ [] = take_more c.args.asks.now i c.ask-item.result c.loop-ask-test.true ∙ ap (λ x. take i c.args.asks.now ++ x ∷ []) (sym c.ask-item.is) in
    record {
      gathered = rw next (c.in-Ok.ensures.gathered (take i c.args.asks.now) s held c.loop-ask.invariant.gathered);
      waiting = c.answer.ensures.waiting;
      upheld = call_upheld g.D.Disk.view c.loop-ask.disk c.answer.new.disk c.args.asks.now (take i c.args.asks.now ++ c.ask-item.result ∷ []) (drop (i + 1) c.args.asks.now)
          (parted i c.args.asks.now c.ask-item.result c.ask-item.result c.loop-ask-test.true c.ask-item.is) _ _ s.history held _ _ _ [] c.in-Ok.ensures.disk
          c.loop-ask.invariant.upheld (c.answer.ensures.upheld (take i c.args.asks.now) s held c.loop-ask.invariant.gathered);
      disk = disk_more g.D.Disk.view c.args.disk.now c.loop-ask.disk c.answer.new.disk _ _ _ [] c.loop-ask.invariant.disk c.in-Ok.ensures.disk;
      count = c.in-Ok.ensures.count ∙ ap (λ n. n + 1) c.loop-ask.invariant.count;
      running = c.in-Ok.ensures.running;
      later = omega (arith, c.loop-ask.invariant.later, c.answer.ensures.later);
      faults = omega (arith, c.loop-ask.invariant.faults, c.answer.ensures.faults);
      beside = c.answer.ensures.beside ∙ c.loop-ask.invariant.beside;
    }

pub returns-in-Err-clause-stops : goal.returns-in-Err-clause-stops
returns-in-Err-clause-stops g c =
    let i = c.loop-ask.ask-index in
    let asks = c.args.asks.now in
    let s = stand (g.M.Machine.kept c.args.machine.now) c.args.steps.now in
    front_stops g.D.Disk.view c.in-Err.why c.args.disk.now c.loop-ask.disk c.answer.new.disk c.answer.new.self.answered asks (take i asks ++ c.ask-item.result ∷ []) (drop (i + 1) asks)
    s (stand (g.M.Machine.kept c.answer.new.machine) c.answer.new.steps) _ _ _ _ _ (parted i asks c.ask-item.result c.ask-item.result c.loop-ask-test.true c.ask-item.is)
    c.loop-ask.invariant.disk (c.in-Err.ensures.stopped (take i asks) s (g.K.Sink.held c.args.link.now) c.loop-ask.invariant.gathered)

pub returns-in-Err-clause-upheld : goal.returns-in-Err-clause-upheld
returns-in-Err-clause-upheld g c =
    let i = c.loop-ask.ask-index in
    let asks = c.args.asks.now in
    let s = stand (g.M.Machine.kept c.args.machine.now) c.args.steps.now in
    let held = g.K.Sink.held c.args.link.now in
    stop_upheld g.D.Disk.view c.loop-ask.disk c.answer.new.disk asks (take i asks ++ c.ask-item.result ∷ []) (drop (i + 1) asks)
    (parted i asks c.ask-item.result c.ask-item.result c.loop-ask-test.true c.ask-item.is) _ _ s.history held _ _ _ c.in-Err.why c.answer.new.self.answered s (stand (g.M.Machine.kept c.answer.new.machine) c.answer.new.steps) _
    (c.in-Err.ensures.stopped (take i asks) s held c.loop-ask.invariant.gathered)
    c.loop-ask.invariant.upheld (c.answer.ensures.upheld (take i asks) s held c.loop-ask.invariant.gathered)

pub returns-in-Ok-settle-clause-answered : goal.returns-in-Ok-settle-clause-answered
returns-in-Ok-settle-clause-answered g c =
    let asks = c.args.asks.now in
    let s = stand (g.M.Machine.kept c.args.machine.now) c.args.steps.now in
    let held = g.K.Sink.held c.args.link.now in
    let all : take c.loop-ask.ask-index asks ≡ asks = take_all c.loop-ask.ask-index asks (omega (arith, c.loop-ask-test.false)) in
    all_answered _ asks s (running (g.M.Machine.history c.settle.new.machine) (g.M.Machine.kept c.settle.new.machine) c.loop-ask.steps) held _ _
    (c.in-Ok-settle.ensures.gathered asks s c.loop-ask.steps held (rw all at c.loop-ask.invariant.gathered)) c.in-Ok-settle.ensures.empty
    (g.met.M.Machine.settled c.settle.new.machine c.settle.new.disk c.in-Ok-settle.ensures.ready).1 g.D.Disk.view c.args.disk.now c.settle.new.disk _
    (disk_more g.D.Disk.view c.args.disk.now c.loop-ask.disk c.settle.new.disk _ _ _ [] c.loop-ask.invariant.disk c.in-Ok-settle.ensures.disk)

pub returns-in-Ok-settle-clause-upheld : goal.returns-in-Ok-settle-clause-upheld
returns-in-Ok-settle-clause-upheld g c =
    let asks = c.args.asks.now in
    let s = stand (g.M.Machine.kept c.args.machine.now) c.args.steps.now in
    let held = g.K.Sink.held c.args.link.now in
    let all : take c.loop-ask.ask-index asks ≡ asks = take_all c.loop-ask.ask-index asks (omega (arith, c.loop-ask-test.false)) in
    call_upheld g.D.Disk.view c.loop-ask.disk c.settle.new.disk asks asks [] (sym (append-nil asks)) _ _ s.history held _ _ _ [] c.in-Ok-settle.ensures.disk c.loop-ask.invariant.upheld
    (c.settle.ensures.upheld asks s c.loop-ask.steps held (rw all at c.loop-ask.invariant.gathered))

pub returns-clause-stops : goal.returns-clause-stops
returns-clause-stops g c =
    let asks = c.args.asks.now in
    let s = stand (g.M.Machine.kept c.args.machine.now) c.args.steps.now in
    let held = g.K.Sink.held c.args.link.now in
    let all : take c.loop-ask.ask-index asks ≡ asks = take_all c.loop-ask.ask-index asks (omega (arith, c.loop-ask-test.false)) in
    front_stops g.D.Disk.view c.in-Err-settle.why c.args.disk.now c.loop-ask.disk c.settle.new.disk c.settle.new.self.answered asks asks [] s
    (stand (g.M.Machine.kept c.settle.new.machine) c.loop-ask.steps) _ _ _ _ _ (sym (append-nil asks)) c.loop-ask.invariant.disk
    (c.in-Err-settle.ensures.stopped asks s c.loop-ask.steps held (rw all at c.loop-ask.invariant.gathered))

pub returns-clause-upheld : goal.returns-clause-upheld
returns-clause-upheld g c =
    let asks = c.args.asks.now in
    let s = stand (g.M.Machine.kept c.args.machine.now) c.args.steps.now in
    let held = g.K.Sink.held c.args.link.now in
    let all : take c.loop-ask.ask-index asks ≡ asks = take_all c.loop-ask.ask-index asks (omega (arith, c.loop-ask-test.false)) in
    stop_upheld g.D.Disk.view c.loop-ask.disk c.settle.new.disk asks asks [] (sym (append-nil asks)) _ _ s.history held _ _ _ c.in-Err-settle.why c.settle.new.self.answered s (stand (g.M.Machine.kept c.settle.new.machine) c.loop-ask.steps) _
    (c.in-Err-settle.ensures.stopped asks s c.loop-ask.steps held (rw all at c.loop-ask.invariant.gathered)) c.loop-ask.invariant.upheld
    (c.settle.ensures.upheld asks s c.loop-ask.steps held (rw all at c.loop-ask.invariant.gathered))
